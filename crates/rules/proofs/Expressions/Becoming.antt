-- What the rules answer, case by case.
use Rattle.std.proofs.Common.{◌≡◌, ◌∙◌, ◌⊎◌, inl, inr, ◌+◌, ◌≤◌, ℕ, Bool, true, false, Option, Some, None, if◌then◌else◌, refl, ap, subst, arith}
use Rattle.js_syntax.specs.declared.node_kind.NodeKind.{NodeKind as Kind}
use Rattle.js_syntax.specs.declared.node_kind.NodeKind.TheVariants.{ConditionalExpression as conditional_expression, LogicalExpression as logical_expression}
use Rattle.js_syntax.specs.declared.operator.LogicalOperator.{LogicalOperator}
use Rattle.js_syntax.specs.Facts.{weight}
use Rattle.js_syntax.specs.Node.{Forest, Tree, Note, nothing, node, forest_of, total}
use Rattle.scope_counts.specs.Counts.{ids}
use Rattle.min_traverse.specs.Lawful.{or_else}
use Rattle.steps.specs.Allowed.KnownConditional.{truth_known}
use Rattle.steps.specs.Allowed.KnownSide.{side_known}
use Rattle.steps.specs.Allowed.Uses.{stands_bare}
use Rattle.rules.specs.Expressions.Uses.{Spot, bare}
use Rattle.rules.specs.Expressions.Known.{branch_taken, by_condition, conditional_becomes, side_taken, by_left_side, logical_becomes}

pub no_answer : {P : Type 0} {y : Tree} → None ≡ Some y → P
no_answer e = absurd Prim.cc

pub same_answer : {x y : Tree} → Some x ≡ Some y → x ≡ y
same_answer e = Prim.cc

pub none_of : (o : Option Tree) → ((y : Tree) → o ≡ Some y → ⊥) → o ≡ None
none_of None never = refl
none_of (Some y) never = absurd (never y refl)

-- the answer of the first rule that has one
pub either_of : (o p : Option Tree) (y : Tree) → or_else o p ≡ Some y → (o ≡ Some y) ⊎ (p ≡ Some y)
either_of None p y e = inr e
either_of (Some x) p y e = inl e

pub data Chosen (b : Bool) (x y : Tree) : Type 0 where
  chosen : b ≡ true → x ≡ y → Chosen b x y

pub chosen_if : (b : Bool) (x y : Tree) → (if b then Some x else None) ≡ Some y → Chosen b x y
chosen_if true x y e = chosen refl (same_answer e)
chosen_if false x y e = no_answer e

-- ---- conditionals

pub data Branch (s : Spot) : Kind → Forest → Tree → Type 0 where
  consequent : (m i j : Note) (t k l : Kind) (a b c : Forest) (y : Tree) → truth_known t m a ≡ Some true → stands_bare s.used_as s.in_with k b ≡ true → (let x : Tree = record { kind = k; note = i; below = b } in x ≡ y)
      → Branch s conditional_expression (node t m a (node k i b (node l j c nothing))) y
  alternate : (m i j : Note) (t k l : Kind) (a b c : Forest) (y : Tree) → truth_known t m a ≡ Some false → stands_bare s.used_as s.in_with l c ≡ true → (let x : Tree = record { kind = l; note = j; below = c } in x ≡ y)
      → Branch s conditional_expression (node t m a (node k i b (node l j c nothing))) y

module _ (s : Spot) where
  by_truth : (t : Kind) (m : Note) (a branches : Forest) (y : Tree) (known : Option Bool) → truth_known t m a ≡ known → branch_taken s known branches ≡ Some y → Branch s conditional_expression (node t m a branches) y
  by_truth t m a (node k i b (node l j c nothing)) y (Some true) w e = elim (chosen_if (stands_bare s.used_as s.in_with k b) (record { kind = k; note = i; below = b }) y e) [ chosen may is ↦ consequent m i j t k l a b c y w may is ]
  by_truth t m a (node k i b (node l j c nothing)) y (Some false) w e = elim (chosen_if (stands_bare s.used_as s.in_with l c) (record { kind = l; note = j; below = c }) y e) [ chosen may is ↦ alternate m i j t k l a b c y w may is ]
  by_truth t m a branches y (Some true) w e = no_answer e
  by_truth t m a branches y (Some false) w e = no_answer e
  by_truth t m a branches y None w e = no_answer e

  by_test : (parts : Forest) (y : Tree) → by_condition s parts ≡ Some y → Branch s conditional_expression parts y
  by_test (node t m a branches) y e = by_truth t m a branches y (truth_known t m a) refl e
  by_test parts y e = no_answer e

  pub branch : (k : Kind) (parts : Forest) (y : Tree) → conditional_becomes s k parts ≡ Some y → Branch s k parts y
  branch conditional_expression parts y e = by_test parts y e
  branch k parts y e = no_answer e

-- the other way round
stands : (s : Spot) (k : Kind) (i : Note) (b : Forest) → stands_bare s.used_as s.in_with k b ≡ true → bare s k i b ≡ Some (record { kind = k; note = i; below = b })
stands s k i b may = ap (λ t. let x : Tree = record { kind = k; note = i; below = b } in if t then Some x else None) may

pub branch_is : {s : Spot} {k : Kind} {parts : Forest} {y : Tree} → Branch s k parts y → conditional_becomes s k parts ≡ Some y
branch_is {s = s} (consequent m i j t k l a b c y w may is) = ap (λ x. branch_taken s x (node k i b (node l j c nothing))) w ∙ stands s k i b may ∙ ap Some is
branch_is {s = s} (alternate m i j t k l a b c y w may is) = ap (λ x. branch_taken s x (node k i b (node l j c nothing))) w ∙ stands s l j c may ∙ ap Some is

-- ---- logical expressions

pub data Side (s : Spot) : Kind → Forest → Tree → Type 0 where
  right_side : (o : LogicalOperator) (m i : Note) (t k : Kind) (a b : Forest) (y : Tree) → side_known o t m a ≡ Some true → stands_bare s.used_as s.in_with k b ≡ true → (let x : Tree = record { kind = k; note = i; below = b } in x ≡ y)
      → Side s (logical_expression o) (node t m a (node k i b nothing)) y
  left_side : (o : LogicalOperator) (m i : Note) (t k : Kind) (a b : Forest) (y : Tree) → side_known o t m a ≡ Some false → stands_bare s.used_as s.in_with t a ≡ true → (let x : Tree = record { kind = t; note = m; below = a } in x ≡ y)
      → Side s (logical_expression o) (node t m a (node k i b nothing)) y

module _ (s : Spot) where
  by_side : (o : LogicalOperator) (m i : Note) (t k : Kind) (a b : Forest) (y : Tree) (known : Option Bool) → side_known o t m a ≡ known → side_taken s known (record { kind = t; note = m; below = a }) (record { kind = k; note = i; below = b }) ≡ Some y
      → Side s (logical_expression o) (node t m a (node k i b nothing)) y
  by_side o m i t k a b y (Some true) w e = elim (chosen_if (stands_bare s.used_as s.in_with k b) (record { kind = k; note = i; below = b }) y e) [ chosen may is ↦ right_side o m i t k a b y w may is ]
  by_side o m i t k a b y (Some false) w e = elim (chosen_if (stands_bare s.used_as s.in_with t a) (record { kind = t; note = m; below = a }) y e) [ chosen may is ↦ left_side o m i t k a b y w may is ]
  by_side o m i t k a b y None w e = no_answer e

  by_left : (o : LogicalOperator) (parts : Forest) (y : Tree) → by_left_side s o parts ≡ Some y → Side s (logical_expression o) parts y
  by_left o (node t m a (node k i b nothing)) y e = by_side o m i t k a b y (side_known o t m a) refl e
  by_left o parts y e = no_answer e

  pub side : (k : Kind) (parts : Forest) (y : Tree) → logical_becomes s k parts ≡ Some y → Side s k parts y
  side (logical_expression o) parts y e = by_left o parts y e
  side k parts y e = no_answer e

-- the other way round
pub side_is : {s : Spot} {k : Kind} {parts : Forest} {y : Tree} → Side s k parts y → logical_becomes s k parts ≡ Some y
side_is {s = s} (right_side o m i t k a b y w may is) = ap (λ x. side_taken s x (record { kind = t; note = m; below = a }) (record { kind = k; note = i; below = b })) w ∙ stands s k i b may ∙ ap Some is
side_is {s = s} (left_side o m i t k a b y w may is) = ap (λ x. side_taken s x (record { kind = t; note = m; below = a }) (record { kind = k; note = i; below = b })) w ∙ stands s t m a may ∙ ap Some is

-- ---- what is left is a part

-- no reference comes in, and it is lighter
pub record IsLess (x y : Tree) : Type 0 where
  pub thins : (r : ℕ) → ids r (forest_of y) ≤ ids r (forest_of x)
  pub lighter : total weight (forest_of y) + 1 ≤ total weight (forest_of x)

pub branch_is_less : {s : Spot} {k : Kind} {parts : Forest} {y : Tree} (n : Note) → Branch s k parts y → IsLess (record { kind = k; note = n; below = parts }) y
branch_is_less n (consequent m i j t k l a b c y w may is) = subst (λ z. IsLess (record { kind = conditional_expression; note = n; below = node t m a (node k i b (node l j c nothing)) }) z) is (record { thins = λ r. Prim.omega arith; lighter = Prim.omega arith })
branch_is_less n (alternate m i j t k l a b c y w may is) = subst (λ z. IsLess (record { kind = conditional_expression; note = n; below = node t m a (node k i b (node l j c nothing)) }) z) is (record { thins = λ r. Prim.omega arith; lighter = Prim.omega arith })

pub side_is_less : {s : Spot} {k : Kind} {parts : Forest} {y : Tree} (n : Note) → Side s k parts y → IsLess (record { kind = k; note = n; below = parts }) y
side_is_less n (right_side o m i t k a b y w may is) = subst (λ z. IsLess (record { kind = logical_expression o; note = n; below = node t m a (node k i b nothing) }) z) is (record { thins = λ r. Prim.omega arith; lighter = Prim.omega arith })
side_is_less n (left_side o m i t k a b y w may is) = subst (λ z. IsLess (record { kind = logical_expression o; note = n; below = node t m a (node k i b nothing) }) z) is (record { thins = λ r. Prim.omega arith; lighter = Prim.omega arith })
