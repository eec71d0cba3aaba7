-- What is left of operations of which nobody takes the value.
use Rattle.std.proofs.Common.{◌≡◌, ◌∙◌, ◌≤◌, ◌⊎◌, inl, inr, ℕ, zero, suc, Bool, true, false, Option, Some, None, if◌then◌else◌, refl, sym, ap, subst, arith}
use Rattle.js_syntax.specs.declared.node_kind.NodeKind.{NodeKind as Kind}
use Rattle.js_syntax.specs.declared.node_kind.NodeKind.TheVariants.{UnaryExpression as unary_expression, BinaryExpression as binary_expression, LogicalExpression as logical_expression, ConditionalExpression as conditional_expression}
use Rattle.js_syntax.specs.Facts.{weight}
use Rattle.js_syntax.specs.Node.{Forest, Tree, Note, nothing, node, absent, forest_of, total}
use Rattle.min_traverse.specs.Lawful.{or_same}
use Rattle.scope_counts.specs.Counts.{ids}
use Rattle.min_context.specs.Place.{place_at, goes_on}
use Rattle.scope_laws.specs.Place as places
use Rattle.scope_counts.specs.Edits.{Around}
use Rattle.steps.specs.Allowed.Child.{child_at}
use Rattle.steps.specs.Allowed.Unused.{is_unused_at}
use Rattle.js_effects.specs.Silence.{only_combines}
use Rattle.steps.specs.Allowed.Uses.{Use, operand_of}
use Rattle.steps.specs.Allowed.UnusedOperation.{acts, index_if, operand_needed, side_needed, left_needed, condition_needed, needed_at, UnusedOperation, one_operand_acts}
use Rattle.rules.specs.DeadCode.Before.{before}
use Rattle.rules.specs.Expressions.Uses.{Spot, spot_of}
use Rattle.rules.specs.Expressions.Unused.{left_of_node, left_at, left_below, unused_becomes, UnusedOperations, last, one_more}
use Rattle.rules.proofs.Expressions.Uses.{spot_at, spot_before}
use Rattle.rules.proofs.Expressions.Becoming.{no_answer, same_answer, IsLess}

-- ---- a child that is needed is there

no_index : {P : Type 0} {i : ℕ} → None ≡ Some i → P
no_index e = absurd Prim.cc

same_index : {i j : ℕ} → Some i ≡ Some j → i ≡ j
same_index e = Prim.cc

data Child (i : ℕ) (parts : Forest) : Type 0 where
  child : (z : Tree) → child_at i parts ≡ Some z → Child i parts

first_there : (k : Kind) (n : Note) (a rest : Forest) (b : Bool) (i : ℕ) → index_if b 0 ≡ Some i → Child i (node k n a rest)
first_there k n a rest true i e = subst (λ j. Child j (node k n a rest)) (same_index e) (child (record { kind = k; note = n; below = a }) refl)
first_there k n a rest false i e = no_index e

second_there : (k l : Kind) (n m : Note) (a c rest : Forest) (b : Bool) (i : ℕ) → index_if b 1 ≡ Some i → Child i (node k n a (node l m c rest))
second_there k l n m a c rest true i e = subst (λ j. Child j (node k n a (node l m c rest))) (same_index e) (child (record { kind = l; note = m; below = c }) refl)
second_there k l n m a c rest false i e = no_index e

one_there : (k l : Kind) (n m : Note) (a c rest : Forest) (right b d : Bool) (i : ℕ) → (if right then index_if b 1 else index_if d 0) ≡ Some i → Child i (node k n a (node l m c rest))
one_there k l n m a c rest true b d i e = second_there k l n m a c rest b i e
one_there k l n m a c rest false b d i e = first_there k n a (node l m c rest) d i e

operand_there : (u : Use) (below : Forest) (i : ℕ) → operand_needed u below ≡ Some i → Child i below
operand_there u (node k n a nothing) i e = first_there k n a nothing _ i e
operand_there u below i e = no_index e

side_there : (below : Forest) (i : ℕ) → side_needed below ≡ Some i → Child i below
side_there (node k n a (node l m b nothing)) i e = one_there k l n m a b nothing (acts l m b) _ _ i e
side_there below i e = no_index e

left_there : (below : Forest) (i : ℕ) → left_needed below ≡ Some i → Child i below
left_there (node k n a (node l m b nothing)) i e = first_there k n a (node l m b nothing) _ i e
left_there below i e = no_index e

condition_there : (below : Forest) (i : ℕ) → condition_needed below ≡ Some i → Child i below
condition_there (node k n a (node l m b (node j h c nothing))) i e = first_there k n a (node l m b (node j h c nothing)) _ i e
condition_there below i e = no_index e

-- of an operation that does nothing itself
when_combined : {i : ℕ} {o : Option ℕ} (b : Bool) → (if b then o else None) ≡ Some i → o ≡ Some i
when_combined true e = e
when_combined false e = no_index e

needed_there : (k : Kind) (below : Forest) (i : ℕ) → needed_at k below ≡ Some i → Child i below
needed_there (unary_expression o) below i e = operand_there (operand_of o) below i (when_combined (only_combines (unary_expression o) below) e)
needed_there (binary_expression o) below i e = side_there below i (when_combined (only_combines (binary_expression o) below) e)
needed_there (logical_expression o) below i e = left_there below i e
needed_there conditional_expression below i e = condition_there below i e
needed_there k below i e = no_index e

-- ---- and something is left of it

abbrev finished : Tree → Tree
finished z = left_of_node z (needed_at z.kind z.below) (λ j. left_at j z.below)

left_is : (i : ℕ) (parts : Forest) (z : Tree) → child_at i parts ≡ Some z → left_at i parts ≡ Some (finished z)
left_is i nothing z e = no_answer e
left_is zero (absent rest) z e = no_answer e
left_is (suc i) (absent rest) z e = left_is i rest z e
left_is zero (node k n below rest) z e = ap (λ y. Some (finished y)) (same_answer e)
left_is (suc i) (node k n below rest) z e = left_is i rest z e

something_left : {P : Type 0} (k : Kind) (below : Forest) (i : ℕ) → needed_at k below ≡ Some i → left_at i below ≡ None → P
something_left k below i is none = elim (needed_there k below i is) [ child z c ↦ no_answer (sym none ∙ left_is i below z c) ]

-- ---- an answer is edits

module _ (a : places.Around) where
  then_left : (x z y : Tree) (o : Option Tree) → UnusedOperation a x z → ((w : Tree) → o ≡ Some w → UnusedOperations a z w) → or_same z o ≡ y → UnusedOperations a x y
  then_left x z y None one more e = subst (λ w. UnusedOperations a x w) e (last one)
  then_left x z y (Some w) one more e = subst (λ v. UnusedOperations a x v) e (one_more z one (more w refl))

  then_node : (x z y : Tree) (o : Option ℕ) (left : ℕ → Option Tree) → UnusedOperation a x z → ((i : ℕ) (w : Tree) → o ≡ Some i → left i ≡ Some w → UnusedOperations a z w) → left_of_node z o left ≡ y → UnusedOperations a x y
  then_node x z y None left one more e = subst (λ w. UnusedOperations a x w) e (last one)
  then_node x z y (Some i) left one more e = then_left x z y (left i) one (λ w p. more i w refl p) e

module _ (a : places.Around) (unused : is_unused_at a ≡ true) where
  edits_below : (parts : Forest) (i : ℕ) (y x : Tree) → left_at i parts ≡ Some y → ((z : Tree) → child_at i parts ≡ Some z → UnusedOperation a x z) → UnusedOperations a x y
  edits_below nothing i y x e one = no_answer e
  edits_below (absent rest) zero y x e one = no_answer e
  edits_below (absent rest) (suc i) y x e one = edits_below rest i y x e one
  edits_below (node k n below rest) zero y x e one =
      let z : Tree = record { kind = k; note = n; below = below } in
      then_node a x z y (needed_at k below) (λ j. left_at j below) (one z refl) (λ j w is p. edits_below below j w z p (λ v c. one_operand_acts j z v unused is c)) (same_answer e)
  edits_below (node k n below rest) (suc i) y x e one = edits_below rest i y x e one

  edits_left : (x y : Tree) (i : ℕ) → needed_at x.kind x.below ≡ Some i → left_at i x.below ≡ Some y → UnusedOperations a x y
  edits_left x y i is e = edits_below x.below i y x e (λ z c. one_operand_acts i x z unused is c)

  -- after one edit
  edits_behind : (z y : Tree) → finished z ≡ y → (y ≡ z) ⊎ UnusedOperations a z y
  edits_behind z y e = at (needed_at z.kind z.below) refl e
    where
      at_child : (i : ℕ) → needed_at z.kind z.below ≡ Some i → (o : Option Tree) → left_at i z.below ≡ o → or_same z o ≡ y → (y ≡ z) ⊎ UnusedOperations a z y
      at_child i is None p e = inl (sym e)
      at_child i is (Some w) p e = inr (edits_left z y i is (p ∙ ap Some e))

      at : (o : Option ℕ) → needed_at z.kind z.below ≡ o → left_of_node z o (λ j. left_at j z.below) ≡ y → (y ≡ z) ⊎ UnusedOperations a z y
      at None is e = inl (sym e)
      at (Some i) is e = at_child i is (left_at i z.below) refl e

-- ---- that leave no other

done_if : (x y : Tree) (i : ℕ) (o : Option Tree) → needed_at x.kind x.below ≡ Some i → left_at i x.below ≡ o → ((w : Tree) → o ≡ Some w → needed_at w.kind w.below ≡ None) → or_same x o ≡ y → needed_at y.kind y.below ≡ None
done_if x y i None is p more e = something_left x.kind x.below i is p
done_if x y i (Some w) is p more e = subst (λ v. needed_at v.kind v.below ≡ None) e (more w refl)

done_node : (x y : Tree) (o : Option ℕ) → needed_at x.kind x.below ≡ o → ((i : ℕ) (w : Tree) → left_at i x.below ≡ Some w → needed_at w.kind w.below ≡ None) → left_of_node x o (λ j. left_at j x.below) ≡ y → needed_at y.kind y.below ≡ None
done_node x y None is more e = subst (λ v. needed_at v.kind v.below ≡ None) e is
done_node x y (Some i) is more e = done_if x y i (left_at i x.below) is refl (λ w p. more i w p) e

done : (parts : Forest) (i : ℕ) (y : Tree) → left_at i parts ≡ Some y → needed_at y.kind y.below ≡ None
done nothing i y e = no_answer e
done (absent rest) zero y e = no_answer e
done (absent rest) (suc i) y e = done rest i y e
done (node k n below rest) zero y e = done_node (record { kind = k; note = n; below = below }) y (needed_at k below) refl (λ j w p. done below j w p) (same_answer e)
done (node k n below rest) (suc i) y e = done rest i y e

-- ---- what is left is a part

record IsWithin (y : Tree) (parts : Forest) : Type 0 where
  fewer : (r : ℕ) → ids r (forest_of y) ≤ ids r parts
  lighter : total weight (forest_of y) ≤ total weight parts

within_node : (k : Kind) (n : Note) (below rest : Forest) (y : Tree) (o : Option ℕ) → ((i : ℕ) (w : Tree) → left_at i below ≡ Some w → IsWithin w below) → left_of_node (record { kind = k; note = n; below = below }) o (λ j. left_at j below) ≡ y → IsWithin y (node k n below rest)
within_node k n below rest y None more e = subst (λ v. IsWithin v (node k n below rest)) e (record { fewer = λ r. Prim.omega arith; lighter = Prim.omega arith })
within_node k n below rest y (Some i) more e = at (left_at i below) refl e
  where
    at : (o : Option Tree) → left_at i below ≡ o → or_same (record { kind = k; note = n; below = below }) o ≡ y → IsWithin y (node k n below rest)
    at None p e = subst (λ v. IsWithin v (node k n below rest)) e (record { fewer = λ r. Prim.omega arith; lighter = Prim.omega arith })
    at (Some w) p e = let h = more i w p in subst (λ v. IsWithin v (node k n below rest)) e (record { fewer = λ r. Prim.omega (arith, h.fewer r); lighter = Prim.omega (arith, h.lighter) })

within_row : (parts : Forest) (i : ℕ) (y : Tree) → left_at i parts ≡ Some y → IsWithin y parts
within_row nothing i y e = no_answer e
within_row (absent rest) zero y e = no_answer e
within_row (absent rest) (suc i) y e = let h = within_row rest i y e in record { fewer = h.fewer; lighter = h.lighter }
within_row (node k n below rest) zero y e = within_node k n below rest y (needed_at k below) (λ j w p. within_row below j w p) (same_answer e)
within_row (node k n below rest) (suc i) y e = let h = within_row rest i y e in record { fewer = λ r. Prim.omega (arith, h.fewer r); lighter = Prim.omega (arith, h.lighter) }

needed_weighs : (k : Kind) (below : Forest) (i : ℕ) → needed_at k below ≡ Some i → 1 ≤ weight k
needed_weighs (unary_expression o) below i e = Prim.omega arith
needed_weighs (binary_expression o) below i e = Prim.omega arith
needed_weighs (logical_expression o) below i e = Prim.omega arith
needed_weighs conditional_expression below i e = Prim.omega arith
needed_weighs k below i e = no_index e

-- ---- the rule

pub data Left (unused : Bool) (k : Kind) (parts : Forest) (y : Tree) : Type 0 where
  left : unused ≡ true → (i : ℕ) → needed_at k parts ≡ Some i → left_at i parts ≡ Some y → Left unused k parts y

left_index : (b : Bool) (k : Kind) (parts : Forest) (y : Tree) (o : Option ℕ) → b ≡ true → needed_at k parts ≡ o → left_below o parts ≡ Some y → Left b k parts y
left_index b k parts y None u is e = no_answer e
left_index b k parts y (Some i) u is e = left u i is e

left_if : (b : Bool) (k : Kind) (parts : Forest) (y : Tree) → (if b then left_below (needed_at k parts) parts else None) ≡ Some y → Left b k parts y
left_if true k parts y e = left_index true k parts y (needed_at k parts) refl refl e
left_if false k parts y e = no_answer e

pub left_part : (s : Spot) (k : Kind) (parts : Forest) (y : Tree) → unused_becomes s k parts ≡ Some y → Left s.is_unused k parts y
left_part s k parts y e = left_if s.is_unused k parts y e

left_part_is : (s : Spot) {k : Kind} {parts : Forest} {y : Tree} → Left s.is_unused k parts y → unused_becomes s k parts ≡ Some y
left_part_is s {k = k} {parts = parts} (left u i is e) = ap (λ b. if b then left_below (needed_at k parts) parts else None) u ∙ ap (λ o. left_below o parts) is ∙ e

pub left_is_less : {b : Bool} {k : Kind} {parts : Forest} {y : Tree} (n : Note) → Left b k parts y → IsLess (record { kind = k; note = n; below = parts }) y
left_is_less {k = k} {parts = parts} {y = y} n (left u i is e) =
    let h = within_row parts i y e in
    record { thins = λ r. Prim.omega (arith, h.fewer r); lighter = Prim.omega (arith, h.lighter, needed_weighs k parts i is) }

left_edits : (a : places.Around) (x y : Tree) → Left (is_unused_at a) x.kind x.below y → UnusedOperations a x y
left_edits a x y (left u i is e) = edits_left a u x y i is e

none_more : {b : Bool} {k : Kind} {parts : Forest} {y : Tree} → Left b k parts y → needed_at y.kind y.below ≡ None
none_more {parts = parts} {y = y} (left u i is e) = done parts i y e

left_none : (a : places.Around) (y z : Tree) {b : Bool} {k : Kind} {parts : Forest} → Left b k parts y → UnusedOperation a y z → ⊥
left_none a _ _ l (one_operand_acts i y z u is c) = no_index (sym (none_more l) ∙ is)

pub first_of : {a : places.Around} {x y : Tree} → UnusedOperations a x y → (z : Tree) × UnusedOperation a x z
first_of {y = y} (last one) = (y, one)
first_of (one_more z one more) = (z, one)

left_answers : (a : places.Around) (x z : Tree) → UnusedOperation a x z → (y : Tree) × Left (is_unused_at a) x.kind x.below y × ((y ≡ z) ⊎ UnusedOperations a z y)
left_answers a _ _ (one_operand_acts i x z u is c) = (finished z, left u i is (left_is i x.below z c), edits_behind a u z (finished z) refl)

-- ---- at a place of edits

pub unused_edits : (a : places.Around) (x y : Tree) → unused_becomes (spot_at a) x.kind x.below ≡ Some y → UnusedOperations a x y
unused_edits a x y e = left_edits a x y (left_part (spot_at a) x.kind x.below y e)

pub unused_answers : (a : places.Around) (x z : Tree) → UnusedOperation a x z → (y : Tree) × (unused_becomes (spot_at a) x.kind x.below ≡ Some y) × ((y ≡ z) ⊎ UnusedOperations a z y)
unused_answers a x z o = let w = left_answers a x z o in (w.0, left_part_is (spot_at a) w.1, w.2)

-- ---- at a place of a walk

pub unused_edits_there : (a : Around) (x y : Tree) (rest : Forest) → unused_becomes (spot_of (place_at a (goes_on rest))) x.kind x.below ≡ Some y → UnusedOperations (before a rest) x y
unused_edits_there a x y rest e = unused_edits (before a rest) x y (ap (λ s. unused_becomes s x.kind x.below) (sym (spot_before a rest)) ∙ e)

pub none_left_there : (a : Around) (x y z : Tree) (rest : Forest) → unused_becomes (spot_of (place_at a (goes_on rest))) x.kind x.below ≡ Some y → UnusedOperation (before a rest) y z → ⊥
none_left_there a x y z rest e o = left_none (before a rest) y z (left_part (spot_of (place_at a (goes_on rest))) x.kind x.below y e) o

pub unused_answers_there : (a : Around) (x z : Tree) (rest : Forest) → UnusedOperation (before a rest) x z → (y : Tree) × (unused_becomes (spot_of (place_at a (goes_on rest))) x.kind x.below ≡ Some y) × ((y ≡ z) ⊎ UnusedOperations (before a rest) z y)
unused_answers_there a x z rest o = let w = unused_answers (before a rest) x z o in (w.0, ap (λ s. unused_becomes s x.kind x.below) (spot_before a rest) ∙ w.1, w.2)
