-- A list from which what stands behind a jump or does nothing is let go, item by item.
use Rattle.std.proofs.Common.{◌≡◌, ◌∙◌, ◌<◌, ◌≤◌, ◌+◌, ◌-◌, ℕ, zero, suc, Bool, true, false, ◌||◌, ◌&&◌, if◌then◌else◌, List, [], ◌∷◌, Option, Some, None, length, take, drop, get_or, set, refl, sym, ap, subst, arith, add-one, true≢false}
use Rattle.std.proofs.lemmas.List.{take_all}
use Rattle.js_syntax.specs.declared.node_kind.NodeKind.{NodeKind as Kind}
use Rattle.js_syntax.specs.declared.node_kind.NodeKind.TheVariants.{EmptyStatement as empty_statement}
use Rattle.js_syntax.specs.Node.{Forest, Tree, nothing, node, absent, forest_of, row}
use Rattle.js_syntax.proofs.Truth.{first_of_both}
use Rattle.js_meaning_near.specs.Near.{cuts_off}
use Rattle.scope_counts.specs.Counts.{ids}
use Rattle.min_context.specs.Edited.{evals, Leaves, DropsNode}
use Rattle.min_context.specs.Seen.{Seen}
use Rattle.steps.specs.Allowed.Branches.{declares_no_name}
use Rattle.steps.specs.Allowed.IdleStatement.{does_nothing}
use Rattle.steps.specs.Allowed.Unreached.{only_runs}
use Rattle.rules.specs.Expressions.Lists.{new_note}
use Rattle.rules.specs.Expressions.Jumps.{is_inert, emptied_behind}
use Rattle.min_statements.specs.Shed.{inert_shed}
use Rattle.min_statements.specs.Behind.{jumped_behind, empty_if_inert}
use Rattle.min_statements.proofs.Shed.{leaves_none, leaves_more, dropped_leaves}

-- ---- the context is told

abbrev pub LeavesInert : Seen → (jumped : Bool) → Forest → Seen → Type 0
LeavesInert c jumped t d = Leaves c (λ r. inert_shed (ids r) jumped t) (inert_shed evals jumped t) d

-- what is left to be told, by a loop: whatever tells the context of that has told it of all
abbrev pub Until : (start : Seen) → Forest → Seen → (jumped : Bool) → Forest → Type 0
Until c all d jumped t = (e : Seen) → LeavesInert d jumped t e → LeavesInert c false all e

one_gone : (m : Forest → ℕ) (jumped : Bool) (x : Tree) (t : Forest) → is_inert jumped x.kind x.below ≡ true → inert_shed m jumped (node x.kind x.note x.below t) ≡ m (forest_of x) + inert_shed m jumped t
one_gone m jumped x t g = ap (λ b. if b then m (forest_of x) + inert_shed m jumped t else inert_shed m (jumped || cuts_off x.kind x.below) t) g

pub others : (xs : List (Option Tree)) (y : Option Tree) → take (length (y ∷ xs) - 1) (drop 1 (y ∷ xs)) ≡ xs
others xs y =
    let less : length (y ∷ xs) - 1 ≡ length xs = Prim.omega arith in
    ap (λ n. take n xs) less ∙ take_all (length xs) xs (Prim.omega arith)

-- one that never runs is told
pub until_next : {c d e : Seen} (all : Forest) (jumped : Bool) (xs : List (Option Tree)) (y : Option Tree) (x : Tree) → 1 ≤ length xs → y ≡ get_or xs 0 y → y ≡ Some x → true ≡ is_inert jumped x.kind x.below
    → d.requested ≡ true → DropsNode d x e → Until c all d jumped (row xs) → Until c all e jumped (row (take (length xs - 1) (drop 1 xs)))
until_next all jumped [] y x l at is goes asked drops until f rest = absurd (Prim.omega (arith, l))
until_next {c = c} {d = d} {e = e} all jumped (z ∷ zs) y x l at is goes asked drops until f rest =
    let first : z ≡ Some x = sym at ∙ is in
    let here : LeavesInert e jumped (row zs) f = subst (λ us. LeavesInert e jumped (row us) f) (others zs z) rest in
    let both : LeavesInert d jumped (row (Some x ∷ zs)) f = leaves_more (dropped_leaves asked drops) here (λ r. one_gone (ids r) jumped x (row zs) (sym goes)) (one_gone evals jumped x (row zs) (sym goes)) in
    until f (subst (λ q. LeavesInert d jumped (row (q ∷ zs)) f) (sym first) both)

-- nothing is left to be told
pub until_none : {c d : Seen} (all : Forest) (jumped : Bool) (xs : List (Option Tree)) → length xs < 1 → Until c all d jumped (row xs) → LeavesInert c false all d
until_none {d = d} all jumped [] l until = until d (leaves_none d)
until_none all jumped (x ∷ xs) l until = absurd (Prim.omega (arith, l))

-- ---- one after another

-- the list of which those before i are done with
abbrev pub emptying : (jumped : Bool) → List (Option Tree) → ℕ → Forest
emptying jumped [] i = nothing
emptying jumped (x ∷ xs) zero = emptied_behind jumped (row (x ∷ xs))
emptying jumped (None ∷ xs) (suc i) = absent (emptying jumped xs i)
emptying jumped (Some t ∷ xs) (suc i) = node t.kind t.note t.below (emptying jumped xs i)

pub emptying_first : (jumped : Bool) (xs : List (Option Tree)) → emptying jumped xs 0 ≡ emptied_behind jumped (row xs)
emptying_first jumped [] = refl
emptying_first jumped (x ∷ xs) = refl

-- what does nothing cuts nothing off
idle_passes : (k : Kind) (b : Forest) → does_nothing k b ≡ true → cuts_off k b ≡ false
idle_passes Kind.WhileStatement b h = refl
idle_passes Kind.ForStatement b h = refl
idle_passes Kind.TryStatement b h = refl
idle_passes (Kind.LabeledStatement l) b h = refl
idle_passes k b h = absurd (true≢false (sym h))

jumped_is : (jumped : Bool) (k : Kind) (b : Forest) → is_inert jumped k b ≡ true → jumped || cuts_off k b ≡ jumped
jumped_is true k b e = refl
jumped_is false k b e = idle_passes k b (first_of_both (does_nothing k b) (only_runs k && declares_no_name k b) e)

one_if : (jumped g : Bool) (t : Tree) (xs : List (Option Tree)) → (g ≡ true → jumped || cuts_off t.kind t.below ≡ jumped)
    → emptying (jumped || cuts_off t.kind t.below) (Some (if g then record { kind = empty_statement; note = new_note t.note; below = nothing } else t) ∷ xs) 1
    ≡ (if g then node empty_statement (new_note t.note) nothing (emptied_behind jumped (row xs)) else node t.kind t.note t.below (emptied_behind (jumped || cuts_off t.kind t.below) (row xs)))
one_if jumped true t xs h = ap (node empty_statement (new_note t.note) nothing) (emptying_first (jumped || cuts_off t.kind t.below) xs ∙ ap (λ b. emptied_behind b (row xs)) (h refl))
one_if jumped false t xs h = ap (node t.kind t.note t.below) (emptying_first (jumped || cuts_off t.kind t.below) xs)

one_then : (jumped : Bool) (x : Option Tree) (xs : List (Option Tree)) → emptying (jumped_behind jumped x) (empty_if_inert jumped x ∷ xs) 1 ≡ emptied_behind jumped (row (x ∷ xs))
one_then jumped None xs = ap absent (emptying_first jumped xs)
one_then jumped (Some t) xs = one_if jumped (is_inert jumped t.kind t.below) t xs (jumped_is jumped t.kind t.below)

emptying_then : (jumped : Bool) (xs : List (Option Tree)) (i : ℕ) (x : Option Tree) → i < length xs → x ≡ get_or xs i x → emptying (jumped_behind jumped x) (set xs i (empty_if_inert jumped x)) (suc i) ≡ emptying jumped xs i
emptying_then jumped [] i x l is = absurd (Prim.omega (arith, l))
emptying_then jumped (y ∷ ys) zero x l is = one_then jumped x ys ∙ ap (λ z. emptied_behind jumped (row (z ∷ ys))) is
emptying_then jumped (None ∷ ys) (suc i) x l is = ap absent (emptying_then jumped ys i x (Prim.omega (arith, l)) is)
emptying_then jumped (Some t ∷ ys) (suc i) x l is = ap (node t.kind t.note t.below) (emptying_then jumped ys i x (Prim.omega (arith, l)) is)

pub emptying_next : (jumped behind : Bool) (xs : List (Option Tree)) (i : ℕ) (x y : Option Tree) → i < length xs → x ≡ get_or xs i x → behind ≡ jumped_behind jumped (get_or xs i x) → y ≡ empty_if_inert jumped (get_or xs i x) → emptying behind (set xs i y) (i + 1) ≡ emptying jumped xs i
emptying_next jumped behind xs i x y l is now puts =
    ap (λ k. emptying behind (set xs i y) k) (add-one i)
    ∙ ap (λ b. emptying b (set xs i y) (suc i)) (now ∙ ap (jumped_behind jumped) (sym is))
    ∙ ap (λ z. emptying (jumped_behind jumped x) (set xs i z) (suc i)) (puts ∙ ap (empty_if_inert jumped) (sym is))
    ∙ emptying_then jumped xs i x l is

pub emptied : (jumped : Bool) (xs : List (Option Tree)) (i : ℕ) → length xs ≤ i → emptying jumped xs i ≡ row xs
emptied jumped [] i l = refl
emptied jumped (x ∷ xs) zero l = absurd (Prim.omega (arith, l))
emptied jumped (None ∷ xs) (suc i) l = ap absent (emptied jumped xs i (Prim.omega (arith, l)))
emptied jumped (Some t ∷ xs) (suc i) l = ap (node t.kind t.note t.below) (emptied jumped xs i (Prim.omega (arith, l)))
