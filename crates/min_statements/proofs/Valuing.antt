-- What the calls on values in a branch that isn't taken do is what the rule answers, and the context is told of exactly what goes.
use Rattle.std.proofs.Common.{◌≡◌, ◌∙◌, ◌<◌, ◌≤◌, ◌+◌, ◌-◌, ℕ, Bool, true, false, if◌then◌else◌, List, [], ◌∷◌, Option, Some, None, map, length, take, drop, get_or, set, refl, sym, ap, subst, arith, true≢false}
use Rattle.js_syntax.specs.declared.node_kind.NodeKind.{NodeKind as Kind}
use Rattle.js_syntax.specs.Node.{Forest, Tree, Note, nothing, node, absent, row}
use Rattle.scope_counts.specs.Counts.{ids}
use Rattle.min_context.specs.Edited.{evals, Leaves}
use Rattle.min_context.specs.Seen.{Seen}
use Rattle.rules.specs.Expressions.Untaken.{zero_for, value_left, values_of, values_rid}
use Rattle.steps.specs.Allowed.UnrunValue.{passes, may_be_dropped}
use Rattle.min_statements.specs.Untaken.{declarator_shed, values_shed_of, values_shed, zero_one, has_value, values_one}
use Rattle.min_statements.proofs.Emptying.{others}
use Rattle.min_statements.proofs.Shed.{leaves_none, leaves_more}

-- ---- the context is told

abbrev pub LeavesValues : Seen → Forest → Seen → Type 0
LeavesValues c t d = Leaves c (λ r. values_shed (ids r) t) (values_shed evals t) d

-- what is told from here on is told of the whole row
abbrev pub Until : (start : Seen) → Forest → Seen → Forest → Type 0
Until c all d t = (e : Seen) → LeavesValues d t e → LeavesValues c all e

abbrev pub LeavesInside : Seen → Tree → Seen → Type 0
LeavesInside c x d = Leaves c (λ r. values_shed_of (ids r) x.kind x.below (values_shed (ids r) x.below)) (values_shed_of evals x.kind x.below (values_shed evals x.below)) d

pub until_next : {c d e : Seen} (all : Forest) (xs : List (Option Tree)) (y : Option Tree) (x : Tree) → 1 ≤ length xs → y ≡ get_or xs 0 y → y ≡ Some x → LeavesInside d x e → Until c all d (row xs) → Until c all e (row (take (length xs - 1) (drop 1 xs)))
until_next all [] y x l at is told until f rest = absurd (Prim.omega (arith, l))
until_next {c = c} {d = d} {e = e} all (z ∷ zs) y x l at is told until f rest =
    let first : z ≡ Some x = sym at ∙ is in
    let here : LeavesValues e (row zs) f = subst (λ us. LeavesValues e (row us) f) (others zs z) rest in
    let both : LeavesValues d (row (Some x ∷ zs)) f = leaves_more told here (λ r. refl) refl in
    until f (subst (λ q. LeavesValues d (row (q ∷ zs)) f) (sym first) both)

pub until_none : {c d : Seen} (all : Forest) (xs : List (Option Tree)) → length xs < 1 → Until c all d (row xs) → LeavesValues c all d
until_none {d = d} all [] l until = until d (leaves_none d)
until_none all (x ∷ xs) l until = absurd (Prim.omega (arith, l))

pub told_inside : {c d e : Seen} (x : Tree) → true ≡ passes x.kind → LeavesValues c x.below d → Leaves d (λ r. declarator_shed (ids r) x.kind x.below) (declarator_shed evals x.kind x.below) e → LeavesInside c x e
told_inside x h each here =
    let on : (m : Forest → ℕ) → values_shed_of m x.kind x.below (values_shed m x.below) ≡ values_shed m x.below + declarator_shed m x.kind x.below = λ m. ap (λ p. if p then values_shed m x.below + declarator_shed m x.kind x.below else 0) (sym h) in
    leaves_more each here (λ r. on (ids r)) (on evals)

pub none_inside : (c : Seen) (x : Tree) → false ≡ passes x.kind → LeavesInside c x c
none_inside c x h =
    let off : (m : Forest → ℕ) → values_shed_of m x.kind x.below (values_shed m x.below) ≡ 0 + 0 = λ m. ap (λ p. if p then values_shed m x.below + declarator_shed m x.kind x.below else 0) (sym h) in
    leaves_more (leaves_none c) (leaves_none c) (λ r. off (ids r)) (off evals)

-- ---- let go

pub each_is_zeroed : (ts : List (Option Tree)) → row (map values_one ts) ≡ values_rid (row ts)
each_is_zeroed [] = refl
each_is_zeroed (None ∷ ts) = ap absent (each_is_zeroed ts)
each_is_zeroed (Some t ∷ ts) = ap (node t.kind t.note (values_of t.kind t.below (values_rid t.below))) (each_is_zeroed ts)

second_by : (k : Kind) (n : Note) (b : Forest) (t : Tree) (r : Forest) (drops : Bool)
    → node k n b (node (if drops then zero_for t.note else t).kind (if drops then zero_for t.note else t).note (if drops then zero_for t.note else t).below r) ≡ node k n b (if drops then node (zero_for t.note).kind (zero_for t.note).note nothing r else node t.kind t.note t.below r)
second_by k n b t r true = refl
second_by k n b t r false = refl

pub second_zeroed : (xs : List (Option Tree)) (x y : Option Tree) → has_value (row xs) ≡ true → y ≡ zero_one (get_or xs 1 x) → row (set xs 1 y) ≡ value_left (row xs)
second_zeroed [] x y h puts = absurd (true≢false (sym h))
second_zeroed (None ∷ xs) x y h puts = absurd (true≢false (sym h))
second_zeroed (Some s ∷ []) x y h puts = absurd (true≢false (sym h))
second_zeroed (Some s ∷ None ∷ xs) x y h puts = absurd (true≢false (sym h))
second_zeroed (Some s ∷ Some t ∷ xs) x y h puts = ap (λ z. row (Some s ∷ z ∷ xs)) puts ∙ second_by s.kind s.note s.below t (row xs) (may_be_dropped t.kind)

pub no_second : (xs : List (Option Tree)) → has_value (row xs) ≡ false → row xs ≡ value_left (row xs)
no_second [] h = refl
no_second (None ∷ xs) h = refl
no_second (Some s ∷ []) h = refl
no_second (Some s ∷ None ∷ xs) h = refl
no_second (Some s ∷ Some t ∷ xs) h = absurd (true≢false h)

pub some_second : (xs : List (Option Tree)) → has_value (row xs) ≡ true → 2 ≤ length xs
some_second [] h = absurd (true≢false (sym h))
some_second (None ∷ xs) h = absurd (true≢false (sym h))
some_second (Some s ∷ []) h = absurd (true≢false (sym h))
some_second (Some s ∷ None ∷ xs) h = absurd (true≢false (sym h))
some_second (Some s ∷ Some t ∷ xs) h = Prim.omega arith
