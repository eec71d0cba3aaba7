-- The operand that is needed alone is there, and what is left of it.
use Rattle.std.proofs.Common.{◌≡◌, ◌∙◌, ◌<◌, ◌≤◌, ℕ, zero, suc, Bool, true, false, Option, Some, None, if◌then◌else◌, is_some, refl, ap, subst, arith}
use Rattle.js_syntax.specs.declared.node_kind.NodeKind.{NodeKind as Kind}
use Rattle.js_syntax.specs.declared.node_kind.NodeKind.TheVariants.{UnaryExpression as unary_expression, BinaryExpression as binary_expression, LogicalExpression as logical_expression, ConditionalExpression as conditional_expression}
use Rattle.js_syntax.specs.Node.{Forest, Tree, nothing, node, absent, forest_of}
use Rattle.js_tree.specs.Weight.{size_of}
use Rattle.min_context.specs.Edited.{Edited}
use Rattle.min_context.specs.Seen.{Seen}
use Rattle.min_traverse.specs.Lawful.{or_same}
use Rattle.js_effects.specs.Silence.{only_combines}
use Rattle.steps.specs.Allowed.Uses.{Use, operand_of}
use Rattle.steps.specs.Allowed.UnusedOperation.{acts, index_if, operand_needed, side_needed, left_needed, condition_needed, needed_at}
use Rattle.rules.specs.Expressions.Uses.{Spot}
use Rattle.rules.specs.Expressions.Unused.{left_of_node, left_at, left_below, unused_becomes}
use Rattle.min_expressions.specs.Kept.{child_at, is_call, parts_of}
use Rattle.min_expressions.specs.Unused.{side_of_parts, left_of_parts, condition_of_parts, unused_keeps}
use Rattle.min_expressions.proofs.Leaving.{Adds, same_some, no_child, edited_twice}

-- ---- by the parts

pub by_sides : (t : Forest) → side_of_parts (parts_of t) ≡ side_needed t
by_sides nothing = refl
by_sides (absent rest) = refl
by_sides (node k n a nothing) = refl
by_sides (node k n a (absent rest)) = refl
by_sides (node k n a (node l m b nothing)) = refl
by_sides (node k n a (node l m b (absent rest))) = refl
by_sides (node k n a (node l m b (node j i c nothing))) = refl
by_sides (node k n a (node l m b (node j i c (absent rest)))) = refl
by_sides (node k n a (node l m b (node j i c (node h p d rest)))) = refl

pub by_left : (t : Forest) → left_of_parts (parts_of t) ≡ left_needed t
by_left nothing = refl
by_left (absent rest) = refl
by_left (node k n a nothing) = refl
by_left (node k n a (absent rest)) = refl
by_left (node k n a (node l m b nothing)) = refl
by_left (node k n a (node l m b (absent rest))) = refl
by_left (node k n a (node l m b (node j i c nothing))) = refl
by_left (node k n a (node l m b (node j i c (absent rest)))) = refl
by_left (node k n a (node l m b (node j i c (node h p d rest)))) = refl

pub by_condition : (t : Forest) → condition_of_parts (parts_of t) ≡ condition_needed t
by_condition nothing = refl
by_condition (absent rest) = refl
by_condition (node k n a nothing) = refl
by_condition (node k n a (absent rest)) = refl
by_condition (node k n a (node l m b nothing)) = refl
by_condition (node k n a (node l m b (absent rest))) = refl
by_condition (node k n a (node l m b (node j i c nothing))) = refl
by_condition (node k n a (node l m b (node j i c (absent rest)))) = refl
by_condition (node k n a (node l m b (node j i c (node h p d rest)))) = refl

-- ---- it is there

no_index : {P : Type 0} {i : ℕ} → None ≡ Some i → P
no_index e = absurd Prim.cc

same_index : (b : Bool) (n i : ℕ) → index_if b n ≡ Some i → n ≡ i
same_index true n i e = Prim.cc
same_index false n i e = no_index e

there : (b : Bool) (n i : ℕ) (t : Forest) → index_if b n ≡ Some i → is_some (child_at n t) ≡ true → is_some (child_at i t) ≡ true
there b n i t e h = subst (λ m. is_some (child_at m t) ≡ true) (same_index b n i e) h

one_there : (d b c : Bool) (m n i : ℕ) (t : Forest) → (if d then index_if b m else index_if c n) ≡ Some i → is_some (child_at m t) ≡ true → is_some (child_at n t) ≡ true → is_some (child_at i t) ≡ true
one_there true b c m n i t e g h = there b m i t e g
one_there false b c m n i t e g h = there c n i t e h

operand_there : (u : Use) (t : Forest) (i : ℕ) → operand_needed u t ≡ Some i → is_some (child_at i t) ≡ true
operand_there u nothing i e = no_index e
operand_there u (absent rest) i e = no_index e
operand_there u (node k n a nothing) i e = there _ 0 i (node k n a nothing) e refl
operand_there u (node k n a (absent rest)) i e = no_index e
operand_there u (node k n a (node l m b rest)) i e = no_index e

sides_there : (t : Forest) (i : ℕ) → side_needed t ≡ Some i → is_some (child_at i t) ≡ true
sides_there nothing i e = no_index e
sides_there (absent rest) i e = no_index e
sides_there (node k n a nothing) i e = no_index e
sides_there (node k n a (absent rest)) i e = no_index e
sides_there (node k n a (node l m b nothing)) i e = one_there (acts l m b) _ _ 1 0 i (node k n a (node l m b nothing)) e refl refl
sides_there (node k n a (node l m b (absent rest))) i e = no_index e
sides_there (node k n a (node l m b (node j p c rest))) i e = no_index e

left_there : (t : Forest) (i : ℕ) → left_needed t ≡ Some i → is_some (child_at i t) ≡ true
left_there nothing i e = no_index e
left_there (absent rest) i e = no_index e
left_there (node k n a nothing) i e = no_index e
left_there (node k n a (absent rest)) i e = no_index e
left_there (node k n a (node l m b nothing)) i e = there _ 0 i (node k n a (node l m b nothing)) e refl
left_there (node k n a (node l m b (absent rest))) i e = no_index e
left_there (node k n a (node l m b (node j p c rest))) i e = no_index e

condition_there : (t : Forest) (i : ℕ) → condition_needed t ≡ Some i → is_some (child_at i t) ≡ true
condition_there nothing i e = no_index e
condition_there (absent rest) i e = no_index e
condition_there (node k n a nothing) i e = no_index e
condition_there (node k n a (absent rest)) i e = no_index e
condition_there (node k n a (node l m b nothing)) i e = no_index e
condition_there (node k n a (node l m b (absent rest))) i e = no_index e
condition_there (node k n a (node l m b (node j p c nothing))) i e = there _ 0 i (node k n a (node l m b (node j p c nothing))) e refl
condition_there (node k n a (node l m b (node j p c (absent rest)))) i e = no_index e
condition_there (node k n a (node l m b (node j p c (node h q d rest)))) i e = no_index e

-- of an operation that does nothing itself
when_combined : (b : Bool) (o : Option ℕ) (i : ℕ) → (if b then o else None) ≡ Some i → o ≡ Some i
when_combined true o i e = e
when_combined false o i e = no_index e

pub needed_there : (k : Kind) (t : Forest) (i : ℕ) → needed_at k t ≡ Some i → is_some (child_at i t) ≡ true
needed_there (unary_expression o) t i e = operand_there (operand_of o) t i (when_combined (only_combines (unary_expression o) t) (operand_needed (operand_of o) t) i e)
needed_there (binary_expression o) t i e = sides_there t i (when_combined (only_combines (binary_expression o) t) (side_needed t) i e)
needed_there (logical_expression o) t i e = left_there t i e
needed_there conditional_expression t i e = condition_there t i e
needed_there k t i e = no_index e

pub needed_is_no_call : (k : Kind) (t : Forest) (i : ℕ) → needed_at k t ≡ Some i → is_call k ≡ false
needed_is_no_call (unary_expression o) t i e = refl
needed_is_no_call (binary_expression o) t i e = refl
needed_is_no_call (logical_expression o) t i e = refl
needed_is_no_call conditional_expression t i e = refl
needed_is_no_call k t i e = no_index e

-- ---- what is left of it

pub smaller : (i : ℕ) (t : Forest) (y : Tree) → child_at i t ≡ Some y → size_of y.below < size_of t
smaller i nothing y e = no_child e
smaller zero (node k n b rest) y e = Prim.omega (arith, ap {A = Tree} (λ z. size_of z.below) (same_some e))
smaller zero (absent rest) y e = no_child e
smaller (suc i) (node k n b rest) y e = Prim.omega (arith, smaller i rest y e)
smaller (suc i) (absent rest) y e = Prim.omega (arith, smaller i rest y e)

abbrev left_of : Tree → Tree
left_of y = left_of_node y (needed_at y.kind y.below) (λ j. left_at j y.below)

left_of_child : (i : ℕ) (t : Forest) (y : Tree) → child_at i t ≡ Some y → left_at i t ≡ Some (left_of y)
left_of_child i nothing y e = no_child e
left_of_child zero (node k n b rest) y e = ap (λ z. Some (left_of z)) (same_some e)
left_of_child zero (absent rest) y e = no_child e
left_of_child (suc i) (node k n b rest) y e = left_of_child i rest y e
left_of_child (suc i) (absent rest) y e = left_of_child i rest y e

pub left_itself : (i : ℕ) (t : Forest) (y : Tree) → child_at i t ≡ Some y → needed_at y.kind y.below ≡ None → left_at i t ≡ Some y
left_itself i t y e none = left_of_child i t y e ∙ ap (λ o. Some (left_of_node y o (λ j. left_at j y.below))) none

pub left_again : (i j : ℕ) (t : Forest) (y z : Tree) → child_at i t ≡ Some y → needed_at y.kind y.below ≡ Some j → left_at j y.below ≡ Some z → left_at i t ≡ Some z
left_again i j t y z e some f = left_of_child i t y e ∙ ap (λ o. Some (left_of_node y o (λ j. left_at j y.below))) some ∙ ap (λ o. Some (or_same y o)) f

-- ---- nothing is brought in

module _ (m : Forest → ℕ) (a : Adds m) where
  child_fewer : (i : ℕ) (t : Forest) (y : Tree) → child_at i t ≡ Some y → m (forest_of y) ≤ m t
  child_fewer i nothing y e = no_child e
  child_fewer zero (node k n b rest) y e = Prim.omega (arith, a.joins k n b rest, ap (λ z. m (forest_of z)) (same_some e))
  child_fewer zero (absent rest) y e = no_child e
  child_fewer (suc i) (node k n b rest) y e = Prim.omega (arith, a.joins k n b rest, child_fewer i rest y e)
  child_fewer (suc i) (absent rest) y e = Prim.omega (arith, a.gap rest, child_fewer i rest y e)

  fewer_or_same : (x z : Tree) (o : Option Tree) (p : ℕ) → ((w : Tree) → o ≡ Some w → m (forest_of w) ≤ p) → m (forest_of x) ≤ p → or_same x o ≡ z → m (forest_of z) ≤ p
  fewer_or_same x z None p h own e = Prim.omega (arith, own, ap (λ w. m (forest_of w)) e)
  fewer_or_same x z (Some w) p h own e = Prim.omega (arith, h w refl, ap (λ v. m (forest_of v)) e)

  fewer_of_node : (x z : Tree) (o : Option ℕ) (left : ℕ → Option Tree) (p : ℕ) → ((j : ℕ) (w : Tree) → left j ≡ Some w → m (forest_of w) ≤ p) → m (forest_of x) ≤ p → left_of_node x o left ≡ z → m (forest_of z) ≤ p
  fewer_of_node x z None left p h own e = Prim.omega (arith, own, ap (λ w. m (forest_of w)) e)
  fewer_of_node x z (Some j) left p h own e = fewer_or_same x z (left j) p (h j) own e

  left_fewer : (i : ℕ) (t : Forest) (z : Tree) → left_at i t ≡ Some z → m (forest_of z) ≤ m t
  left_fewer i nothing z e = no_child e
  left_fewer zero (node k n b rest) z e =
      fewer_of_node (record { kind = k; note = n; below = b }) z (needed_at k b) (λ j. left_at j b) (m (node k n b rest)) (λ j w f. Prim.omega (arith, left_fewer j b w f, a.below k n b, a.joins k n b rest)) (Prim.omega (arith, a.joins k n b rest)) (same_some e)
  left_fewer zero (absent rest) z e = no_child e
  left_fewer (suc i) (node k n b rest) z e = Prim.omega (arith, a.joins k n b rest, left_fewer i rest z e)
  left_fewer (suc i) (absent rest) z e = Prim.omega (arith, a.gap rest, left_fewer i rest z e)

-- an operand came out, and of that what is left
pub edited_again : {c d e : Seen} (i j : ℕ) (x y z : Tree) → child_at i x.below ≡ Some y → left_at j y.below ≡ Some z → Edited c x y true d → Edited d y z true e → Edited c x z true e
edited_again i j x y z f g first second =
    edited_twice x y z (λ m a. Prim.omega (arith, child_fewer m a i x.below y f, a.below x.kind x.note x.below)) (λ m a. Prim.omega (arith, left_fewer m a j y.below z g, a.below y.kind y.note y.below)) first second

-- ---- where nobody takes the value

module _ (k : Kind) (t : Forest) where
  kept_there : (b : Bool) (i : ℕ) → (if b then needed_at k t else None) ≡ Some i → needed_at k t ≡ Some i
  kept_there true i e = e
  kept_there false i e = no_index e

  left_there_below : (b : Bool) (i : ℕ) (y : Tree) → (if b then needed_at k t else None) ≡ Some i → left_at i t ≡ Some y → (if b then left_below (needed_at k t) t else None) ≡ Some y
  left_there_below true i y e f = ap (λ o. left_below o t) e ∙ f
  left_there_below false i y e f = no_index e

  none_left_below : (b : Bool) → (if b then needed_at k t else None) ≡ None → (if b then left_below (needed_at k t) t else None) ≡ None
  none_left_below true e = ap (λ o. left_below o t) e
  none_left_below false e = refl

  module _ (s : Spot) where
    pub unused_there : (i : ℕ) → unused_keeps s k t ≡ Some i → is_some (child_at i t) ≡ true
    unused_there i e = needed_there k t i (kept_there s.is_unused i e)

    pub unused_left : (i : ℕ) (y : Tree) → unused_keeps s k t ≡ Some i → left_at i t ≡ Some y → unused_becomes s k t ≡ Some y
    unused_left i y e f = left_there_below s.is_unused i y e f

    pub unused_stays : unused_keeps s k t ≡ None → unused_becomes s k t ≡ None
    unused_stays e = none_left_below s.is_unused e
