-- Once the bit of direct eval is read anew of a program, it is where a call stands, and nowhere else.
use Rattle.std.proofs.Common.{◌≡◌, ◌∙◌, ◌≤◌, ◌+◌, ◌-◌, ◌^◌, ◌==◌, ℕ, zero, suc, List, [], ◌∷◌, ◌++◌, Bool, true, false, not, ◌&&◌, ◌||◌, if◌then◌else◌, cond, nat_eq, bit_or, is_some, Option, Some, None, length, slice_index_or, refl, sym, ap, ap₂, subst, arith}
use Rattle.std.specs.Int.RustNames.{bit_and}
use Rattle.std.specs.List.{list_any}
use Rattle.std.specs.Option.{option_to_list}
use Rattle.std.proofs.lemmas.Bool.{and_parts, eqb-true, eq-eqb}
use Rattle.std.proofs.lemmas.Nat.{and_assoc, and_or_apart}
use Rattle.bitflags.specs.Sets.{without as without_bits}
use Rattle.bitflags.proofs.BitFacts.{without-gone}
use Rattle.js_syntax.specs.declared.node_kind.NodeKind.{NodeKind as Kind}
use Rattle.js_syntax.specs.declared.node_kind.NodeKind.TheVariants as kind
use Rattle.js_syntax.specs.Class.{root}
use Rattle.js_syntax.specs.Node.{Forest, Note, nothing, node, absent}
use Rattle.js_syntax.proofs.Truth.{first_of_either, second_of_either}
use Rattle.js_tree.specs.Names.{eval_of_call}
use Rattle.json_shape.specs.Shape.{Fits}
use Rattle.form_rules.specs.Context.{behind_first}
use Rattle.scope_rules.specs.ScopeFlags as scope_flag
use Rattle.scope_rules.specs.Context.{has_second, opens}
use Rattle.scope_rules.specs.Site.{has_eval, scope_row}
use Rattle.scope_rules.specs.Table.{Scope, Scoping}
use Rattle.scope_table.specs.Reading.{no_scope, scope_at, scopes_up, ancestors}
use Rattle.scope_table.specs.Refreshing.{own_eval, eval_scopes, is_around, with_eval, without_eval, flagged, refreshed}
use Rattle.scope_counts.specs.Exact.{count}
use Rattle.steps.proofs.Fit.Modules.{fits_program}
use Rattle.steps.specs.Allowed.Edits.{TreeEdits}
use Rattle.steps.specs.Allowed.Exposure.{is_script}
use Rattle.steps.specs.Owed.Kept.{is_program}
use Rattle.steps.proofs.Owed.FitsEdits.{tree_edits_fit}
use Rattle.steps.specs.Marked.Flags.{has_bits, scope_has, is_within, Stand, stand_inside, stands_of}
use Rattle.steps.proofs.Marked.Exposing.{never}
use Rattle.rules.specs.Told.Places.{EachPlace}
use Rattle.rules.specs.Told.Parts.{FlagsTellOnly, TellsCallsOnly, TellsNamesOnly, NamesToldOnly}
use Rattle.rules.specs.Told.Nesting.{scope_inside, IsScopeIn, NestsAt, own_scope, scope_marks, ScopesNest}
use Rattle.rules.proofs.Told.Standing.{exposed_in_scope, inside_reads, scope_evaluates, within_opens}
use Rattle.rules.proofs.Told.Edited.{Throughout, joined_only, names_of, edits_names}
use Rattle.rules.proofs.Told.Marks.{count_append, marks_of_node}
use Rattle.rules.proofs.Told.Nested.{edits_nest, parents_alone}

-- ---- counts

pub evals_of_node : (i : ℕ) (k : Kind) (n : Note) (below rest : Forest) → count i (eval_scopes (node k n below rest)) ≡ count i (own_eval k n below) + (count i (eval_scopes below) + count i (eval_scopes rest))
evals_of_node i k n below rest =
    Prim.omega (arith, count_append i (own_eval k n below) (eval_scopes below ++ eval_scopes rest), count_append i (eval_scopes below) (eval_scopes rest))

own_fewer : (i : ℕ) (b e : Bool) (ms : List ℕ) → count i (if b && e then ms else []) ≤ count i (if b then ms else [])
own_fewer i true true ms = Prim.omega arith
own_fewer i true false ms = Prim.omega arith
own_fewer i false e ms = Prim.omega arith

evals_among_marks : (i : ℕ) (t : Forest) → count i (eval_scopes t) ≤ count i (scope_marks t)
evals_among_marks i nothing = Prim.omega arith
evals_among_marks i (absent rest) = evals_among_marks i rest
evals_among_marks i (node k n below rest) =
    Prim.omega (arith, evals_of_node i k n below rest, marks_of_node i k n below rest, own_fewer i (opens k below) (has_eval (scope_row k below)) (option_to_list n.id), evals_among_marks i below, evals_among_marks i rest)

pub count_itself : (i : ℕ) → count i (i ∷ []) ≡ 1
count_itself i = ap (λ b. cond b 1 0 + 0) (eq-eqb i i refl)

-- ---- calls of `eval` below a node

behind_part : (t : Forest) → has_eval (behind_first t) ≡ true → has_eval t ≡ true
behind_part nothing e = e
behind_part (absent rest) e = e
behind_part (node k n below rest) e = second_of_either (is_some (eval_of_call k below) || has_eval below) (has_eval rest) e

row_part : (k : Kind) (below : Forest) → has_eval (scope_row k below) ≡ true → has_eval below ≡ true
row_part kind.SwitchStatement below e = behind_part below e
row_part kind.WithStatement below e = behind_part below e
row_part (kind.PropertyDefinition is_static key) below e = behind_part below e
row_part k below e = e

-- ---- the scopes in which a call stands, and those around them

module _ (s : Scoping) (B : ℕ → Type 0) where
  abbrev Has : Option ℕ → Type 0
  Has None = Unit {0}
  Has (Some n) = B n

  -- around each node with a call there is one of them, or none
  abbrev Under : (os : ℕ → Option ℕ) → (at : ℕ) → Forest → Type 0
  Under os at nothing = Unit {0}
  Under os at (absent rest) = Under os (suc at) rest
  Under os at (node k n below rest) = (is_some (eval_of_call k below) || has_eval below ≡ true → Has (os at)) × Under os (suc at) rest

  under_all : (os : ℕ → Option ℕ) (at : ℕ) (t : Forest) → ((i : ℕ) → has_eval t ≡ true → Has (os i)) → Under os at t
  under_all os at nothing h = tt
  under_all os at (absent rest) h = under_all os (suc at) rest h
  under_all os at (node k n below rest) h = (
    (λ e. h at (first_of_either (is_some (eval_of_call k below) || has_eval below) (has_eval rest) e)),
    under_all os (suc at) rest (λ i e. h i (second_of_either (is_some (eval_of_call k below) || has_eval below) (has_eval rest) e)),
  )

  under_behind : (os : ℕ → Option ℕ) (t : Forest) → (has_eval t ≡ true → Has (os 0)) → ((i : ℕ) → has_eval (behind_first t) ≡ true → Has (os i)) → Under os 0 t
  under_behind os nothing f h = tt
  under_behind os (absent rest) f h = under_all os 1 rest h
  under_behind os (node k n below rest) f h = ((λ e. f (first_of_either (is_some (eval_of_call k below) || has_eval below) (has_eval rest) e)), under_all os 1 rest h)

  has_if : (w : Bool) (o q : Option ℕ) → (w ≡ true → Has o) → Has q → Has (if w then o else q)
  has_if true o q f h = f refl
  has_if false o q f h = h

  under_inside : (o : Option ℕ) (k : Kind) (n : Note) (below : Forest) → (has_eval below ≡ true → Has o) → (opens k below ≡ true → has_eval (scope_row k below) ≡ true → Has n.id) → Under (scope_inside o k n below) 0 below
  under_inside o kind.SwitchStatement n below f own = under_behind _ below f (λ i e. has_if (i == 1) n.id o (λ w. own refl e) (f (behind_part below e)))
  under_inside o kind.WithStatement n below f own = under_behind _ below f (λ i e. has_if (i == 1) n.id o (λ w. own refl e) (f (behind_part below e)))
  under_inside o (kind.PropertyDefinition is_static key) n below f own =
      under_behind _ below (λ e. has_if (has_second below && 0 == 1) n.id o (λ w. never (and_parts (has_second below) (0 == 1) w).1) (f e))
      (λ i e. has_if (has_second below && i == 1) n.id o (λ w. own (and_parts (has_second below) (i == 1) w).0 e) (f (behind_part below e)))
  under_inside o k n below f own = under_all _ 0 below (λ i e. has_if (is_within k below i) n.id o (λ w. own (within_opens k below i w) e) (f e))

  abbrev AllUp : List ℕ → Type 0
  AllUp [] = Unit {0}
  AllUp (m ∷ ms) = Has (scope_at s m).parent × AllUp ms

  up_append : (xs ys : List ℕ) → AllUp xs → AllUp ys → AllUp (xs ++ ys)
  up_append [] ys f g = g
  up_append (x ∷ xs) ys f g = (f.0, up_append xs ys f.1 g)

  own_up : (o : Option ℕ) (n : Note) (e : Bool) → (e ≡ true → IsScopeIn s o n) → (e ≡ true → Has o) → AllUp (if e then option_to_list n.id else [])
  own_up o n true f g = let x = f refl in subst (λ i. AllUp (option_to_list i)) (sym x.is_marked) (subst (λ q. Has q) (sym x.parent) (g refl), tt)
  own_up o n false f g = tt

  own_has : (o : Option ℕ) (n : Note) (k : Kind) (below : Forest) → opens k below ≡ true → has_eval (scope_row k below) ≡ true → IsScopeIn s o n → ((i : ℕ) → 1 ≤ count i (own_eval k n below) → B i) → Has n.id
  own_has o n k below p e x h =
      let listed : own_eval k n below ≡ x.number ∷ [] = ap₂ (λ b c. if b && c then option_to_list n.id else []) p e ∙ ap option_to_list x.is_marked in
      let one : count x.number (own_eval k n below) ≡ 1 = ap (count x.number) listed ∙ count_itself x.number in
      subst (λ i. Has i) (sym x.is_marked) (h x.number (Prim.omega (arith, one)))

  ups : (os : ℕ → Option ℕ) (at : ℕ) (t : Forest) → EachPlace scope_inside (NestsAt s) os at t → Under os at t → ((i : ℕ) → 1 ≤ count i (eval_scopes t) → B i) → AllUp (eval_scopes t)
  ups os at nothing h u b = tt
  ups os at (absent rest) h u b = ups os (suc at) rest h u b
  ups os at (node k n below rest) h u b =
      let here : has_eval below ≡ true → Has (os at) = λ e. u.0 (second_of_either (is_some (eval_of_call k below)) (has_eval below) e) in
      let own_b : (i : ℕ) → 1 ≤ count i (own_eval k n below) → B i = λ i l. b i (Prim.omega (arith, l, evals_of_node i k n below rest)) in
      up_append (own_eval k n below) (eval_scopes below ++ eval_scopes rest)
      (own_up (os at) n (opens k below && has_eval (scope_row k below)) (λ e. h.0 (and_parts (opens k below) (has_eval (scope_row k below)) e).0) (λ e. here (row_part k below (and_parts (opens k below) (has_eval (scope_row k below)) e).1)))
      (up_append (eval_scopes below) (eval_scopes rest)
      (ups (scope_inside (os at) k n below) 0 below h.1 (under_inside (os at) k n below here (λ p e. own_has (os at) n k below p e (h.0 p) own_b)) (λ i l. b i (Prim.omega (arith, l, evals_of_node i k n below rest))))
      (ups os (suc at) rest h.2 u.1 (λ i l. b i (Prim.omega (arith, l, evals_of_node i k n below rest)))))

  up_of : (ms : List ℕ) → AllUp ms → (m : ℕ) → 1 ≤ count m ms → Has (scope_at s m).parent
  up_of [] h m l = absurd (Prim.omega (arith, l))
  up_of (x ∷ xs) h m l =
      elim (nat_eq m x) as (λ b. nat_eq m x ≡ b → 1 ≤ cond b 1 0 + count m xs → Has (scope_at s m).parent)
      [ true ↦ λ same _. subst (λ i. Has (scope_at s i).parent) (sym (eqb-true m x same)) h.0 | false ↦ λ _ later. up_of xs h.1 m (Prim.omega (arith, later)) ] refl l

  module _ (up : (m : ℕ) → B m → Has (scope_at s m).parent) where
    chain_has : (n most : ℕ) (o : Option ℕ) → Has o → list_any (nat_eq n) (scopes_up most s o) ≡ true → B n
    chain_has n zero o h e = never e
    chain_has n (suc most) None h e = never e
    chain_has n (suc most) (Some m) h e =
        elim (nat_eq n m) as (λ b. nat_eq n m ≡ b → b || list_any (nat_eq n) (scopes_up most s (scope_at s m).parent) ≡ true → B n)
        [ true ↦ λ same _. subst B (sym (eqb-true n m same)) h | false ↦ λ _ rest. chain_has n most (scope_at s m).parent (up m h) rest ] refl e

    around_has : (n : ℕ) (ms : List ℕ) → ((m : ℕ) → 1 ≤ count m ms → B m) → is_around s ms n ≡ true → B n
    around_has n [] h e = never e
    around_has n (m ∷ ms) h e =
        let one : 1 ≤ count m (m ∷ ms) = subst (λ b. 1 ≤ cond b 1 0 + count m ms) (sym (eq-eqb m m refl)) (Prim.omega arith) in
        let more : (i : ℕ) → 1 ≤ count i ms → B i = λ i l. h i (Prim.omega (arith, l)) in
        elim (list_any (nat_eq n) (ancestors s m)) as (λ b. list_any (nat_eq n) (ancestors s m) ≡ b → b || is_around s ms n ≡ true → B n)
        [ true ↦ λ here _. chain_has n (length s.scopes) (Some m) (h m one) here | false ↦ λ _ rest. around_has n ms more rest ] refl e

-- ---- places

module _ (s : Scoping) (B : ℕ → Type 0) where
  abbrev Evaluates : Stand → Type 0
  Evaluates p = (n : ℕ) → p.scope ≡ Some n → B n → p.exposure.evaluates ≡ true

  pick : (w : Bool) (o q : Option ℕ) (m : ℕ) (x y : Bool) → (if w then o else q) ≡ Some m → (w ≡ true → o ≡ Some m → x ≡ true) → (q ≡ Some m → y ≡ true) → (if w then x else y) ≡ true
  pick true o q m x y e f g = f refl e
  pick false o q m x y e f g = g e

  evaluates_inside : (p : Stand) (k : Kind) (n : Note) (below : Forest) → Evaluates p → (opens k below ≡ true → (m : ℕ) → n.id ≡ Some m → B m → has_eval (scope_row k below) ≡ true) → (at : ℕ) → Evaluates (stand_inside p k n below at)
  evaluates_inside p k n below h own at m e b =
      inside_reads (λ x. x.evaluates) (λ x c. refl) p.exposure k below at
      ∙ pick (is_within k below at) n.id p.scope m (exposed_in_scope p.exposure k below).evaluates p.exposure.evaluates e (λ w is. scope_evaluates p.exposure k below ∙ own (within_opens k below at w) m is b) (λ is. h m is b)

  -- Marks and scopes with calls that stand outside of a row are counted apart: a mark that the row has is none of those.
  own_evaluates : (k : Kind) (n : Note) (below : Forest) (outer_marks outer_evals : ℕ → ℕ) (rest : Forest) → ((i : ℕ) → outer_evals i ≤ outer_marks i) → ((i : ℕ) → outer_marks i + count i (scope_marks (node k n below rest)) ≤ 1)
      → ((i : ℕ) → B i → 1 ≤ outer_evals i + count i (eval_scopes (node k n below rest))) → opens k below ≡ true → (m : ℕ) → n.id ≡ Some m → B m → has_eval (scope_row k below) ≡ true
  own_evaluates k n below om oe rest fewer once each p m is b =
      elim (has_eval (scope_row k below)) as (λ v. has_eval (scope_row k below) ≡ v → v ≡ true) [
        | true ↦ λ e. refl
        | false ↦ λ e. let own_marks : count m (own_scope k n below) ≡ 1 = ap₂ (λ c i. count m (if c then option_to_list i else [])) p is ∙ count_itself m in
            let own_evals : count m (own_eval k n below) ≡ 0 = ap₂ (λ c d. count m (if c && d then option_to_list n.id else [])) p e in
            absurd (Prim.omega (arith, own_marks, own_evals, fewer m, once m, each m b, marks_of_node m k n below rest, evals_of_node m k n below rest, evals_among_marks m below, evals_among_marks m rest))
      ] refl

  row_evaluates : (t : Forest) (ps : ℕ → Stand) (at : ℕ) (outer_marks outer_evals : ℕ → ℕ) → ((i : ℕ) → outer_evals i ≤ outer_marks i) → ((i : ℕ) → outer_marks i + count i (scope_marks t) ≤ 1)
      → ((i : ℕ) → B i → 1 ≤ outer_evals i + count i (eval_scopes t)) → ((i : ℕ) → Evaluates (ps i)) → Throughout Evaluates ps at t
  row_evaluates nothing ps at om oe fewer once each h = tt
  row_evaluates (absent rest) ps at om oe fewer once each h = row_evaluates rest ps (suc at) om oe fewer once each h
  row_evaluates (node k n below rest) ps at om oe fewer once each h = (
    h at,
    row_evaluates below (stand_inside (ps at) k n below) 0 (λ i. om i + count i (own_scope k n below) + count i (scope_marks rest)) (λ i. oe i + count i (own_eval k n below) + count i (eval_scopes rest))
        (λ i. Prim.omega (arith, fewer i, own_fewer i (opens k below) (has_eval (scope_row k below)) (option_to_list n.id), evals_among_marks i rest)) (λ i. Prim.omega (arith, once i, marks_of_node i k n below rest))
        (λ i b. Prim.omega (arith, each i b, evals_of_node i k n below rest)) (evaluates_inside (ps at) k n below (h at) (own_evaluates k n below om oe rest fewer once each)),
    row_evaluates rest ps (suc at) (λ i. om i + count i (own_scope k n below) + count i (scope_marks below)) (λ i. oe i + count i (own_eval k n below) + count i (eval_scopes below))
        (λ i. Prim.omega (arith, fewer i, own_fewer i (opens k below) (has_eval (scope_row k below)) (option_to_list n.id), evals_among_marks i below)) (λ i. Prim.omega (arith, once i, marks_of_node i k n below rest))
        (λ i b. Prim.omega (arith, each i b, evals_of_node i k n below rest)) h,
  )

  program_evaluates : (t : Forest) → is_program t ≡ true → ((i : ℕ) → count i (scope_marks t) ≤ 1) → ((i : ℕ) → B i → 1 ≤ count i (eval_scopes t)) → Throughout Evaluates (stands_of t) 0 t
  program_evaluates (node (kind.Program source) n below rest) e once each =
      let t = node (kind.Program source) n below rest in
      let none : (i : ℕ) → 0 ≤ 0 = λ i. Prim.omega arith in
      let once_more : (i : ℕ) → 0 + count i (scope_marks t) ≤ 1 = λ i. Prim.omega (arith, once i) in
      let each_more : (i : ℕ) → B i → 1 ≤ 0 + count i (eval_scopes t) = λ i b. Prim.omega (arith, each i b) in
      row_evaluates t (stands_of t) 0 (λ i. 0) (λ i. 0) none once_more each_more (λ i m is b. own_evaluates (kind.Program source) n below (λ i. 0) (λ i. 0) rest none once_more each_more refl m is b)
  program_evaluates (node k n below rest) e once each = never e
  program_evaluates (absent rest) e once each = never e
  program_evaluates nothing e once each = never e

-- ---- the bit

abbrev pub told_again : (set : Bool) → ℕ → ℕ
told_again set f = if set then bit_or (without_bits 16 f 512) 512 else without_bits 16 f 512

pub told_flags : (set : Bool) (x : Scope) → (if set then with_eval (without_eval x) else without_eval x).flags ≡ told_again set x.flags
told_flags true x = refl
told_flags false x = refl

told_parent : (set : Bool) (x : Scope) → (if set then with_eval (without_eval x) else without_eval x).parent ≡ x.parent
told_parent true x = refl
told_parent false x = refl

gone : (f : ℕ) → has_bits (without_bits 16 f 512) 512 ≡ false
gone f = ap (λ n. n == 512) (without-gone 16 f 512 (Prim.omega arith))

other_bits : (m : ℕ) → bit_and 512 m ≡ 0 → bit_and (2 ^ 16 - 1 - 512) m ≡ m → (set : Bool) (f : ℕ) → has_bits (told_again set f) m ≡ has_bits f m
other_bits m apart within true f = ap (λ n. n == m) (and_or_apart m (without_bits 16 f 512) 512 apart ∙ and_assoc m f (2 ^ 16 - 1 - 512) ∙ ap (bit_and f) within)
other_bits m apart within false f = ap (λ n. n == m) (and_assoc m f (2 ^ 16 - 1 - 512) ∙ ap (bit_and f) within)

abbrev is_sloppy : ℕ → Bool
is_sloppy flags = not (has_bits flags 1 || has_bits flags 2 || has_bits flags 4 || has_bits flags 16)

sloppy_again : (set : Bool) (f : ℕ) → is_sloppy (told_again set f) ≡ is_sloppy f
sloppy_again set f = λ i. not (other_bits 1 refl refl set f i || other_bits 2 refl refl set f i || other_bits 4 refl refl set f i || other_bits 16 refl refl set f i)

bit_told : (test : ℕ → Bool) (next : ℕ) (xs : List Scope) (n m : ℕ) → m ≡ next + n → has_bits (slice_index_or (flagged test next xs) n no_scope).flags 512 ≡ true → test m ≡ true
bit_told test next [] n m is e = never e
bit_told test next (x ∷ xs) zero m is e =
    let same : m ≡ next = Prim.omega (arith, is) in
    ap test same ∙ elim (test next) as (λ b. has_bits (told_again b x.flags) 512 ≡ true → b ≡ true) [ true ↦ λ g. refl | false ↦ λ g. sym (gone x.flags) ∙ g ] (ap (λ f. has_bits f 512) (sym (told_flags (test next) x)) ∙ e)
bit_told test next (x ∷ xs) (suc n) m is e = bit_told test (suc next) xs n m (Prim.omega (arith, is)) e

pub sloppy_told : (test : ℕ → Bool) (next : ℕ) (xs : List Scope) (n : ℕ) → is_sloppy (slice_index_or (flagged test next xs) n no_scope).flags ≡ is_sloppy (slice_index_or xs n no_scope).flags
sloppy_told test next [] n = refl
sloppy_told test next (x ∷ xs) zero = ap is_sloppy (told_flags (test next) x) ∙ sloppy_again (test next) x.flags
sloppy_told test next (x ∷ xs) (suc n) = sloppy_told test (suc next) xs n

parent_told : (test : ℕ → Bool) (next : ℕ) (xs : List Scope) (n : ℕ) → (slice_index_or (flagged test next xs) n no_scope).parent ≡ (slice_index_or xs n no_scope).parent
parent_told test next [] n = refl
parent_told test next (x ∷ xs) zero = told_parent (test next) x
parent_told test next (x ∷ xs) (suc n) = parent_told test (suc next) xs n

-- ---- the table

names_again : (s : Scoping) (script : Bool) (t : Forest) (ps : ℕ → Stand) (at : ℕ) (u : Forest) → Throughout (TellsNamesOnly s script) ps at u → Throughout (TellsNamesOnly (refreshed t s) script) ps at u
names_again s script t ps at nothing h = tt
names_again s script t ps at (absent rest) h = names_again s script t ps (suc at) rest h
names_again s script t ps at (node k n below rest) h = (
  record { sloppy = λ m e g. h.0.sloppy m e (sym (sloppy_told (is_around s (eval_scopes t)) 0 s.scopes m) ∙ g); names = h.0.names; variable_names = h.0.variable_names },
  names_again s script t (stand_inside (ps at) k n below) 0 below h.1,
  names_again s script t ps (suc at) rest h.2,
)

calls_again : (now : Scoping) (B : ℕ → Type 0) → ((n : ℕ) → scope_has now n scope_flag.direct_eval ≡ true → B n) → (s : Scoping) (ps : ℕ → Stand) (at : ℕ) (u : Forest) → Throughout (Evaluates s B) ps at u → Throughout (TellsCallsOnly now) ps at u
calls_again now B f s ps at nothing h = tt
calls_again now B f s ps at (absent rest) h = calls_again now B f s ps (suc at) rest h
calls_again now B f s ps at (node k n below rest) h = ((λ m e g. h.0 m e (f m g)), calls_again now B f s (stand_inside (ps at) k n below) 0 below h.1, calls_again now B f s ps (suc at) rest h.2)

pub refreshed_tells_only : (s : Scoping) (u : Forest) → Fits root u → ScopesNest s u → NamesToldOnly s u → FlagsTellOnly (refreshed u s) u
refreshed_tells_only s u fits nest h =
    let E = eval_scopes u in
    let B : ℕ → Type 0 = λ m. 1 ≤ count m E in
    let all : AllUp s B E = ups s B (λ at. None) 0 u nest.nested (under_all s B (λ at. None) 0 u (λ i e. tt)) (λ i l. l) in
    let told : (n : ℕ) → scope_has (refreshed u s) n scope_flag.direct_eval ≡ true → B n = λ n e. around_has s B (up_of s B E all) n E (λ m l. l) (bit_told (is_around s E) 0 s.scopes n n (Prim.omega arith) e) in
    joined_only (refreshed u s) u (calls_again (refreshed u s) B told s (stands_of u) 0 u (program_evaluates s B u (fits_program u fits) nest.once (λ i b. b))) (names_again s (is_script u) u (stands_of u) 0 u h)

pub refreshed_names : (s : Scoping) (t u : Forest) → NamesToldOnly s u → NamesToldOnly (refreshed t s) u
refreshed_names s t u h = names_again s (is_script u) t (stands_of u) 0 u h

pub refreshed_nests : (s : Scoping) (t u : Forest) → ScopesNest s u → ScopesNest (refreshed t s) u
refreshed_nests s t u h = parents_alone u s (refreshed t s) (parent_told (is_around s (eval_scopes t)) 0 s.scopes) h

pub edits_refreshed : (s : Scoping) (t u : Forest) → TreeEdits t u → Fits root t → ScopesNest s t → FlagsTellOnly s t → FlagsTellOnly (refreshed u s) u
edits_refreshed s t u edits fits nest h = refreshed_tells_only s u (tree_edits_fit t u edits fits) (edits_nest s t u edits fits nest) (edits_names s t u edits fits (names_of s t h))
