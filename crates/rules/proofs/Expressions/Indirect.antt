-- What becomes of choices of which it is known which part counts, where it matters that this doesn't stand there itself, or the test acts.
use Rattle.std.proofs.Common.{◌≡◌, ◌∙◌, inl, inr, ◌||◌, ◌+◌, ◌≤◌, ℕ, Bool, true, false, Option, Some, None, if◌then◌else◌, refl, sym, ap, ap₂, subst, arith}
use Rattle.js_syntax.specs.declared.node_kind.NodeKind.{NodeKind as Kind}
use Rattle.js_syntax.specs.declared.node_kind.NodeKind.TheVariants.{ConditionalExpression as conditional_expression, LogicalExpression as logical_expression}
use Rattle.js_syntax.specs.declared.operator.LogicalOperator.{LogicalOperator}
use Rattle.js_syntax.specs.Facts.{weight}
use Rattle.js_syntax.specs.Node.{Forest, Tree, Note, nothing, node, alone, bare, forest_of, total}
use Rattle.js_tree.specs.Walk.{is_list}
use Rattle.js_effects.specs.Answers.{bare_answers}
use Rattle.js_effects.specs.Values.{truth_of}
use Rattle.scope_counts.specs.Counts.{ids}
use Rattle.min_context.specs.Place.{place_at, goes_on}
use Rattle.min_traverse.specs.Lawful.{or_else}
use Rattle.scope_laws.specs.Place as places
use Rattle.scope_counts.specs.Edits.{Around}
use Rattle.steps.specs.Allowed.IndirectChoice.{way_known, one_of, if_so, part_counts, behind_zero, in_turn, behind, IndirectChoice, value_alone_counts, part_counts_behind_test}
use Rattle.steps.specs.Allowed.KnownConditional.{truth_known}
use Rattle.steps.specs.Allowed.KnownSide.{side_known}
use Rattle.steps.specs.Allowed.UnusedOperation.{acts}
use Rattle.steps.specs.Allowed.Uses.{matters}
use Rattle.steps.specs.Allowed.Untaken.{truth_given}
use Rattle.steps.proofs.Owed.BehindTest.{Follows, consequent_follows, alternate_follows, right_side_follows, part_follows, follows_owes}
use Rattle.steps.proofs.Owed.KnownTests.{test_weighs, side_weighs}
use Rattle.rules.specs.DeadCode.Before.{before}
use Rattle.rules.specs.Expressions.Uses.{Spot, spot_of}
use Rattle.rules.specs.Expressions.Lists.{new_note}
use Rattle.rules.specs.Expressions.Indirect.{behind_if, test_and_part, indirect_becomes}
use Rattle.rules.proofs.Expressions.Uses.{spot_at, spot_before}
use Rattle.rules.proofs.Expressions.Becoming.{no_answer, same_answer, either_of, chosen, chosen_if, IsLess}

-- ---- an answer is a part that counts, behind a zero

record IsBehind (s : Spot) (n : Note) (o : Option Tree) (y : Tree) : Type 0 where
  part : Tree
  counts : o ≡ Some part
  itself : matters s.used_as s.in_with part.kind part.below ≡ true
  is : behind_zero (new_note n) (new_note n) (new_note n) part ≡ y

is_behind : (s : Spot) (n : Note) (o : Option Tree) (y : Tree) → behind_if s n o ≡ Some y → IsBehind s n o y
is_behind s n None y e = no_answer e
is_behind s n (Some z) y e = elim (chosen_if (matters s.used_as s.in_with z.kind z.below) (behind_zero (new_note n) (new_note n) (new_note n) z) y e) [ chosen may is ↦ record { part = z; counts = refl; itself = may; is = is } ]

-- ---- the answer is an edit, and where an edit applies there is an answer

pub indirect_edits : (a : places.Around) (x y : Tree) → indirect_becomes (spot_at a) x.note x.kind x.below ≡ Some y → IndirectChoice a x y
indirect_edits a x y e =
    elim (either_of (behind_if (spot_at a) x.note (part_counts x.kind x.below)) (test_and_part x.note x.kind x.below) y e) [
      | inl f ↦
          let h = is_behind (spot_at a) x.note (part_counts x.kind x.below) y f in
          subst (λ z. IndirectChoice a x z) h.is (value_alone_counts (new_note x.note) (new_note x.note) (new_note x.note) x h.part h.counts h.itself)
      | inr f ↦ part_counts_behind_test (new_note x.note) (new_note x.note) x y f
    ]

-- of what acts it is not known what it decides without that
acting_unknown : (b c : Bool) (o : Option Bool) → b ≡ true → (if b || c then None else o) ≡ None
acting_unknown true c o h = refl
acting_unknown false c o h = absurd cc

-- and beside it is
beside : (b : Bool) (o : Option Bool) (x : Bool) → b ≡ true → o ≡ Some x → (if b then o else None) ≡ Some x
beside true o x h e = e
beside false o x h e = absurd cc

follows_answers : (a : places.Around) (n m : Note) {x z : Tree} → Follows n m x z → (y : Tree) × (indirect_becomes (spot_at a) x.note x.kind x.below ≡ Some y) × (bare (forest_of y) ≡ bare (forest_of z))
follows_answers a n m (consequent_follows o p i j t k l d b c acting truth) =
    let x : Tree = record { kind = k; note = i; below = b } in
    let y : Tree = record { kind = l; note = j; below = c } in
    let test : Tree = record { kind = t; note = p; below = d } in
    let to = new_note o in (
      in_turn to to test x,
      ap₂ (λ u v. or_else (behind_if (spot_at a) o (one_of u x y)) (behind to to test (one_of v x y))) (acting_unknown (acts t p d) (is_list t) (truth_of bare_answers (alone t p d)) acting) (beside (acts t p d) (truth_given t p d) true acting truth),
      refl,
    )
follows_answers a n m (alternate_follows o p i j t k l d b c acting truth) =
    let x : Tree = record { kind = k; note = i; below = b } in
    let y : Tree = record { kind = l; note = j; below = c } in
    let test : Tree = record { kind = t; note = p; below = d } in
    let to = new_note o in (
      in_turn to to test y,
      ap₂ (λ u v. or_else (behind_if (spot_at a) o (one_of u x y)) (behind to to test (one_of v x y))) (acting_unknown (acts t p d) (is_list t) (truth_of bare_answers (alone t p d)) acting) (beside (acts t p d) (truth_given t p d) false acting truth),
      refl,
    )
follows_answers a n m (right_side_follows q o p i t k d b acting goes) =
    let x : Tree = record { kind = k; note = i; below = b } in
    let test : Tree = record { kind = t; note = p; below = d } in
    let to = new_note o in (
      in_turn to to test x,
      ap₂ (λ u v. or_else (behind_if (spot_at a) o (if_so u x)) (behind to to test (if_so v x))) (acting_unknown (acts t p d) (is_list t) (way_known q (alone t p d)) acting) (beside (acts t p d) (way_known q (alone t p d)) true acting goes),
      refl,
    )

pub indirect_answers : (a : places.Around) (x z : Tree) → IndirectChoice a x z → (y : Tree) × (indirect_becomes (spot_at a) x.note x.kind x.below ≡ Some y) × (bare (forest_of y) ≡ bare (forest_of z))
indirect_answers a _ _ (value_alone_counts n m i x z counts itself) =
    let y : Tree = behind_zero (new_note x.note) (new_note x.note) (new_note x.note) z in
    let test = test_and_part x.note x.kind x.below in
    (y, ap (λ o. or_else (behind_if (spot_at a) x.note o) test) counts ∙ ap (λ b. or_else (if b then Some y else None) test) itself, refl)
indirect_answers a x z (part_counts_behind_test n m _ _ e) = follows_answers a n m (part_follows n m x.note x.kind x.below z e)

-- at a place of a walk
pub indirect_edits_there : (a : Around) (x y : Tree) (rest : Forest) → indirect_becomes (spot_of (place_at a (goes_on rest))) x.note x.kind x.below ≡ Some y → IndirectChoice (before a rest) x y
indirect_edits_there a x y rest e = indirect_edits (before a rest) x y (ap (λ s. indirect_becomes s x.note x.kind x.below) (sym (spot_before a rest)) ∙ e)

pub indirect_answers_there : (a : Around) (x z : Tree) (rest : Forest) → IndirectChoice (before a rest) x z → (y : Tree) × (indirect_becomes (spot_of (place_at a (goes_on rest))) x.note x.kind x.below ≡ Some y) × (bare (forest_of y) ≡ bare (forest_of z))
indirect_answers_there a x z rest o = let w = indirect_answers (before a rest) x z o in (w.0, ap (λ s. indirect_becomes s x.note x.kind x.below) (spot_before a rest) ∙ w.1, w.2)

-- ---- the choice weighs more than a sequence and a zero

record IsSmall (k : Kind) (parts : Forest) (z : Tree) : Type 0 where
  fewer : (r : ℕ) → ids r (forest_of z) ≤ ids r parts
  lighter : total weight (forest_of z) + 4 ≤ weight k + total weight parts

small_branch : (t : Kind) (m i j : Note) (k l : Kind) (a b c : Forest) (z : Tree) (known : Option Bool) → truth_known t m a ≡ known → one_of known (record { kind = k; note = i; below = b }) (record { kind = l; note = j; below = c }) ≡ Some z
    → IsSmall conditional_expression (node t m a (node k i b (node l j c nothing))) z
small_branch t m i j k l a b c z (Some true) w e =
    let test = test_weighs t m a true w in
    subst (λ y. IsSmall conditional_expression (node t m a (node k i b (node l j c nothing))) y) (same_answer e) (record { fewer = λ r. Prim.omega arith; lighter = Prim.omega (arith, test) })
small_branch t m i j k l a b c z (Some false) w e =
    let test = test_weighs t m a false w in
    subst (λ y. IsSmall conditional_expression (node t m a (node k i b (node l j c nothing))) y) (same_answer e) (record { fewer = λ r. Prim.omega arith; lighter = Prim.omega (arith, test) })
small_branch t m i j k l a b c z None w e = no_answer e

small_side : (o : LogicalOperator) (t : Kind) (m i : Note) (k : Kind) (a b : Forest) (z : Tree) (known : Option Bool) → side_known o t m a ≡ known → if_so known (record { kind = k; note = i; below = b }) ≡ Some z
    → IsSmall (logical_expression o) (node t m a (node k i b nothing)) z
small_side o t m i k a b z (Some true) w e =
    let side = side_weighs t m a o true w in
    subst (λ y. IsSmall (logical_expression o) (node t m a (node k i b nothing)) y) (same_answer e) (record { fewer = λ r. Prim.omega arith; lighter = Prim.omega (arith, side) })
small_side o t m i k a b z (Some false) w e = no_answer e
small_side o t m i k a b z None w e = no_answer e

small_part : (k : Kind) (parts : Forest) (z : Tree) → part_counts k parts ≡ Some z → IsSmall k parts z
small_part conditional_expression (node t m a (node k i b (node l j c nothing))) z e = small_branch t m i j k l a b c z (truth_known t m a) refl e
small_part (logical_expression o) (node t m a (node k i b nothing)) z e = small_side o t m i k a b z (side_known o t m a) refl e
small_part k parts z e = no_answer e

follows_thins : {n m : Note} {x y : Tree} → Follows n m x y → (r : ℕ) → ids r (forest_of y) ≤ ids r (forest_of x)
follows_thins (consequent_follows o p i j t k l d b c acting truth) r = Prim.omega arith
follows_thins (alternate_follows o p i j t k l d b c acting truth) r = Prim.omega arith
follows_thins (right_side_follows q o p i t k d b acting goes) r = Prim.omega arith

follows_is_less : {n m : Note} {x y : Tree} → Follows n m x y → IsLess x y
follows_is_less {x = x} {y = y} follows = record { thins = follows_thins follows; lighter = Prim.omega (arith, (follows_owes (places.first nothing) follows).lighter) }

pub indirect_is_less : (s : Spot) (n : Note) (k : Kind) (parts : Forest) (y : Tree) → indirect_becomes s n k parts ≡ Some y → IsLess (record { kind = k; note = n; below = parts }) y
indirect_is_less s n k parts y e =
    elim (either_of (behind_if s n (part_counts k parts)) (test_and_part n k parts) y e) [
      | inl f ↦
          let h = is_behind s n (part_counts k parts) y f in
          let l = small_part k parts h.part h.counts in
          subst (λ z. IsLess (record { kind = k; note = n; below = parts }) z) h.is (record { thins = λ r. Prim.omega (arith, l.fewer r); lighter = Prim.omega (arith, l.lighter) })
      | inr f ↦ follows_is_less (part_follows (new_note n) (new_note n) n k parts y f)
    ]
