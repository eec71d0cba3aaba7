-- What becomes of statements `if` of which the test is known, and of `try` around nothing.
use Rattle.std.proofs.Common.{◌≡◌, ◌∙◌, ◌⊎◌, inl, inr, Bool, true, false, ◌&&◌, Option, Some, None, refl, ap, subst, arith}
use Rattle.js_syntax.specs.declared.node_kind.NodeKind.{NodeKind as Kind}
use Rattle.js_syntax.specs.declared.node_kind.NodeKind.TheVariants.{IfStatement as if_statement, EmptyStatement as empty_statement, BlockStatement as block_statement, TryStatement as try_statement}
use Rattle.js_syntax.specs.Node.{Forest, Tree, Note, nothing, node, absent, bare, forest_of}
use Rattle.js_syntax.proofs.Truth.{both, first_of_both, second_of_both}
use Rattle.js_meaning_near.specs.Local.{IsField}
use Rattle.steps.specs.Allowed.Branches.{is_branch, declares_none, declares_no_name}
use Rattle.steps.specs.Allowed.DeadIf.{DeadIf, nothing_is_run}
use Rattle.steps.specs.Allowed.KnownConditional.{truth_known}
use Rattle.steps.specs.Allowed.EmptyBlock.{idles}
use Rattle.steps.specs.Allowed.IdleTry.{has_no_loop, a_try, IdleTry, finalizer_is_run, finalizer_is_run_alone, block_is_run}
use Rattle.steps.specs.Allowed.KnownIf.{an_if, KnownIf, consequent_is_run, alternate_is_run}
use Rattle.steps.proofs.Owed.KnownTests.{test_weighs}
use Rattle.rules.specs.Expressions.Ifs.{is_field, given_if, consequent_runs, alternate_runs, what_runs, try_runs, try_becomes, if_becomes, IfEdit}
use Rattle.rules.specs.Expressions.Lists.{new_note}
use Rattle.rules.proofs.Expressions.Becoming.{no_answer, chosen, chosen_if, IsLess}

of_if : {x y : Tree} → KnownIf x y ⊎ DeadIf x y → IfEdit x y
of_if (inl known) = inl known
of_if (inr dead) = inr (inl dead)

-- ---- one field

as_field : (t : Forest) → is_field t ≡ true → IsField t
as_field (absent nothing) h = tt
as_field (node k n b nothing) h = tt
as_field nothing h = absurd cc
as_field (absent (absent r)) h = absurd cc
as_field (absent (node k n b r)) h = absurd cc
as_field (node k n b (absent r)) h = absurd cc
as_field (node k n b (node l m c r)) h = absurd cc

field_so : (t : Forest) → IsField t → is_field t ≡ true
field_so (absent nothing) h = refl
field_so (node k n b nothing) h = refl
field_so nothing h = absurd h
field_so (absent (absent r)) h = absurd h
field_so (absent (node k n b r)) h = absurd h
field_so (node k n b (absent r)) h = absurd h
field_so (node k n b (node l m c r)) h = absurd h

-- ---- an answer is what an edit leaves

module _ (n : Note) (t : Kind) (m : Note) (a : Forest) where
  by_truth : (truth : Option Bool) (branches : Forest) (y : Tree) → truth_known t m a ≡ truth → what_runs n truth branches ≡ Some y → KnownIf (an_if n t m a branches) y ⊎ DeadIf (an_if n t m a branches) y
  by_truth (Some true) (node k i b alternate) y is e =
      elim (chosen_if (consequent_runs k alternate) (record { kind = k; note = i; below = b }) y e) [
        | chosen may same ↦
            let rest = second_of_both (is_branch k) (is_field alternate && declares_none alternate) may in
            inl (subst (KnownIf (an_if n t m a (node k i b alternate))) same
            (consequent_is_run n m i t k a b alternate is (first_of_both (is_branch k) (is_field alternate && declares_none alternate) may)
            (as_field alternate (first_of_both (is_field alternate) (declares_none alternate) rest)) (second_of_both (is_field alternate) (declares_none alternate) rest)))
      ]
  by_truth (Some false) (node k i b (node l j c nothing)) y is e =
      elim (chosen_if (alternate_runs l (node k i b nothing)) (record { kind = l; note = j; below = c }) y e) [
        | chosen may same ↦
            inl (subst (KnownIf (an_if n t m a (node k i b (node l j c nothing)))) same
            (alternate_is_run n m i j t k l a b c is (first_of_both (is_branch l) (declares_none (node k i b nothing)) may) (second_of_both (is_branch l) (declares_none (node k i b nothing)) may)))
      ]
  by_truth (Some false) (node k i b (absent nothing)) y is e =
      elim (chosen_if (declares_none (node k i b nothing)) (record { kind = empty_statement; note = new_note n; below = nothing }) y e) [
        | chosen may same ↦ inr (subst (DeadIf (an_if n t m a (node k i b (absent nothing)))) same (nothing_is_run n m i (new_note n) t k a b is may))
      ]
  by_truth None branches y is e = no_answer e
  by_truth (Some true) nothing y is e = no_answer e
  by_truth (Some true) (absent r) y is e = no_answer e
  by_truth (Some false) nothing y is e = no_answer e
  by_truth (Some false) (absent r) y is e = no_answer e
  by_truth (Some false) (node k i b nothing) y is e = no_answer e
  by_truth (Some false) (node k i b (absent (absent r))) y is e = no_answer e
  by_truth (Some false) (node k i b (absent (node l j c r))) y is e = no_answer e
  by_truth (Some false) (node k i b (node l j c (absent r))) y is e = no_answer e
  by_truth (Some false) (node k i b (node l j c (node h p d r))) y is e = no_answer e

module _ (n i : Note) (b : Forest) where
  by_rest : (rest : Forest) (y : Tree) → try_runs i b rest ≡ Some y → IdleTry (a_try n i b rest) y
  by_rest (absent (node block_statement j c nothing)) y e =
      elim (chosen_if (idles b && has_no_loop c) (record { kind = block_statement; note = j; below = c }) y e) [
        | chosen may same ↦
            subst (IdleTry (a_try n i b (absent (node block_statement j c nothing)))) same (finalizer_is_run n i j b c (first_of_both (idles b) (has_no_loop c) may) (second_of_both (idles b) (has_no_loop c) may))
      ]
  by_rest (node k h d (node block_statement j c nothing)) y e =
      elim (chosen_if (idles b && (declares_no_name k d && has_no_loop c)) (record { kind = block_statement; note = j; below = c }) y e) [
        | chosen may same ↦
            let rest = second_of_both (idles b) (declares_no_name k d && has_no_loop c) may in
            let none = both (declares_no_name k d) true (first_of_both (declares_no_name k d) (has_no_loop c) rest) refl in
            subst (IdleTry (a_try n i b (node k h d (node block_statement j c nothing)))) same
            (finalizer_is_run_alone n i h j k b d c (first_of_both (idles b) (declares_no_name k d && has_no_loop c) may) none (second_of_both (declares_no_name k d) (has_no_loop c) rest))
      ]
  by_rest (node k h d (absent nothing)) y e =
      elim (chosen_if (idles b && declares_no_name k d) (record { kind = block_statement; note = i; below = b }) y e) [
        | chosen may same ↦
            let none = both (declares_no_name k d) true (second_of_both (idles b) (declares_no_name k d) may) refl in
            subst (IdleTry (a_try n i b (node k h d (absent nothing)))) same (block_is_run n i h k b d (first_of_both (idles b) (declares_no_name k d) may) none)
      ]
  by_rest nothing y e = no_answer e
  by_rest (absent nothing) y e = no_answer e
  by_rest (absent (absent r)) y e = no_answer e
  by_rest (absent (node l j c nothing)) y e = no_answer e
  by_rest (absent (node block_statement j c (absent r))) y e = no_answer e
  by_rest (absent (node block_statement j c (node p q f r))) y e = no_answer e
  by_rest (absent (node l j c (absent r))) y e = no_answer e
  by_rest (absent (node l j c (node p q f r))) y e = no_answer e
  by_rest (node k h d nothing) y e = no_answer e
  by_rest (node k h d (absent (absent r))) y e = no_answer e
  by_rest (node k h d (absent (node l j c r))) y e = no_answer e
  by_rest (node k h d (node l j c nothing)) y e = no_answer e
  by_rest (node k h d (node block_statement j c (absent r))) y e = no_answer e
  by_rest (node k h d (node block_statement j c (node p q f r))) y e = no_answer e
  by_rest (node k h d (node l j c (absent r))) y e = no_answer e
  by_rest (node k h d (node l j c (node p q f r))) y e = no_answer e

try_edits : (n : Note) (below : Forest) (y : Tree) → try_becomes below ≡ Some y → IdleTry (record { kind = try_statement; note = n; below = below }) y
try_edits n (node block_statement i b rest) y e = by_rest n i b rest y e
try_edits n nothing y e = no_answer e
try_edits n (absent r) y e = no_answer e
try_edits n (node k i b rest) y e = no_answer e

if_edits_at : (n : Note) (k : Kind) (below : Forest) (y : Tree) → if_becomes n k below ≡ Some y → (let x : Tree = record { kind = k; note = n; below = below } in IfEdit x y)
if_edits_at n if_statement (node t m a branches) y e = of_if (by_truth n t m a (truth_known t m a) branches y refl e)
if_edits_at n try_statement below y e = inr (inr (try_edits n below y e))
if_edits_at n if_statement nothing y e = no_answer e
if_edits_at n if_statement (absent r) y e = no_answer e
if_edits_at n k below y e = no_answer e

pub if_edits : (x y : Tree) → if_becomes x.note x.kind x.below ≡ Some y → IfEdit x y
if_edits x y e = if_edits_at x.note x.kind x.below y e

-- ---- and where an edit applies there is an answer

so_given : (b : Bool) (x : Tree) → b ≡ true → given_if b x ≡ Some x
so_given b x h = ap (λ c. given_if c x) h

pub known_if_answers : (x y : Tree) → KnownIf x y → if_becomes x.note x.kind x.below ≡ Some y
known_if_answers _ _ (consequent_is_run n m i t k a b alternate truth branch field none) =
    ap (λ o. what_runs n o (node k i b alternate)) truth
    ∙ so_given (consequent_runs k alternate) (record { kind = k; note = i; below = b }) (both (is_branch k) (is_field alternate && declares_none alternate) branch (both (is_field alternate) (declares_none alternate) (field_so alternate field) none))
known_if_answers _ _ (alternate_is_run n m i j t k l a b c truth branch none) =
    ap (λ o. what_runs n o (node k i b (node l j c nothing))) truth
    ∙ so_given (alternate_runs l (node k i b nothing)) (record { kind = l; note = j; below = c }) (both (is_branch l) (declares_none (node k i b nothing)) branch none)

pub dead_if_answers : (x z : Tree) → DeadIf x z → (y : Tree) × (if_becomes x.note x.kind x.below ≡ Some y) × (bare (forest_of y) ≡ bare (forest_of z))
dead_if_answers _ _ (nothing_is_run n m i o t k a b truth none) =
    let y : Tree = record { kind = empty_statement; note = new_note n; below = nothing } in
    (y, ap (λ q. what_runs n q (node k i b (absent nothing))) truth ∙ so_given (declares_none (node k i b nothing)) y none, refl)

pub idle_try_answers : (x y : Tree) → IdleTry x y → if_becomes x.note x.kind x.below ≡ Some y
idle_try_answers _ _ (finalizer_is_run n i j b c idle loops) = so_given (idles b && has_no_loop c) (record { kind = block_statement; note = j; below = c }) (both (idles b) (has_no_loop c) idle loops)
idle_try_answers _ _ (finalizer_is_run_alone n i h j k b d c idle none loops) =
    so_given (idles b && (declares_no_name k d && has_no_loop c)) (record { kind = block_statement; note = j; below = c })
    (both (idles b) (declares_no_name k d && has_no_loop c) idle (both (declares_no_name k d) (has_no_loop c) (first_of_both (declares_no_name k d) true none) loops))
idle_try_answers _ _ (block_is_run n i h k b d idle none) =
    so_given (idles b && declares_no_name k d) (record { kind = block_statement; note = i; below = b }) (both (idles b) (declares_no_name k d) idle (first_of_both (declares_no_name k d) true none))

-- ---- what comes is less

known_if_less : (x y : Tree) → KnownIf x y → IsLess x y
known_if_less _ _ (consequent_is_run n m i t k a b alternate truth branch field none) = record { thins = λ r. Prim.omega arith; lighter = Prim.omega arith }
known_if_less _ _ (alternate_is_run n m i j t k l a b c truth branch none) = record { thins = λ r. Prim.omega arith; lighter = Prim.omega arith }

dead_if_less : (x y : Tree) → DeadIf x y → IsLess x y
dead_if_less _ _ (nothing_is_run n m i o t k a b truth none) = record { thins = λ r. Prim.omega arith; lighter = Prim.omega (arith, test_weighs t m a false truth) }

idle_try_less : (x y : Tree) → IdleTry x y → IsLess x y
idle_try_less _ _ (finalizer_is_run n i j b c idle loops) = record { thins = λ r. Prim.omega arith; lighter = Prim.omega arith }
idle_try_less _ _ (finalizer_is_run_alone n i h j k b d c idle none loops) = record { thins = λ r. Prim.omega arith; lighter = Prim.omega arith }
idle_try_less _ _ (block_is_run n i h k b d idle none) = record { thins = λ r. Prim.omega arith; lighter = Prim.omega arith }

pub if_is_less : (x y : Tree) → if_becomes x.note x.kind x.below ≡ Some y → IsLess x y
if_is_less x y e = less x y (if_edits x y e)
  where
    less : (x y : Tree) → IfEdit x y → IsLess x y
    less x y (inl known) = known_if_less x y known
    less x y (inr (inl dead)) = dead_if_less x y dead
    less x y (inr (inr idle)) = idle_try_less x y idle
