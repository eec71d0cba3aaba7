-- Which child of an expression comes out of it, by its index.
use Rattle.std.specs.Prelude.{ℕ, Bool, true, false, Option, Some, None, if◌then◌else◌}
use Rattle.js_syntax.specs.declared.node_kind.NodeKind.{NodeKind as Kind}
use Rattle.js_syntax.specs.declared.node_kind.NodeKind.TheVariants.{ConditionalExpression as conditional_expression, LogicalExpression as logical_expression, CallExpression as call_expression}
use Rattle.js_syntax.specs.declared.operator.LogicalOperator.{LogicalOperator}
use Rattle.js_syntax.specs.Node.{Forest, Tree, nothing, node}
pub use Rattle.steps.specs.Allowed.Child.{child_at}
use Rattle.steps.specs.Allowed.KnownConditional.{truth_known}
use Rattle.steps.specs.Allowed.KnownSide.{side_known}
use Rattle.steps.specs.Allowed.Uses.{matters, stands_bare}
use Rattle.rules.specs.Expressions.Uses.{Spot}
use Rattle.min_expressions.specs.declared.parts.Parts.{Parts as Answer}
use Rattle.min_expressions.specs.declared.parts.Parts.TheVariants as answer

-- ---- what is asked of a place

abbrev pub matters_at : Spot → Tree → Bool
matters_at s x = matters s.used_as s.in_with x.kind x.below

abbrev pub stands_at : Spot → Tree → Bool
stands_at s x = stands_bare s.used_as s.in_with x.kind x.below

-- ---- two nodes, or three

pub data Parts : Type 0 where
  pair : (first second : Tree) → Parts
  triple : (first second third : Tree) → Parts
  others : Parts

abbrev pub parts_of : Forest → Parts
parts_of (node k n a (node l m b nothing)) = pair (record { kind = k; note = n; below = a }) (record { kind = l; note = m; below = b })
parts_of (node k n a (node l m b (node j i c nothing))) = triple (record { kind = k; note = n; below = a }) (record { kind = l; note = m; below = b }) (record { kind = j; note = i; below = c })
parts_of t = others

-- as code says it
abbrev pub told_parts : Answer → Parts
told_parts (answer.Pair a b) = pair a.now b.now
told_parts (answer.Triple a b c) = triple a.now b.now c.now
told_parts answer.Others = others

-- ---- which of them

abbrev pub kept_if : Bool → ℕ → Option ℕ
kept_if b i = if b then Some i else None

abbrev pub branch_kept : Spot → (truth : Option Bool) → (consequent alternate : Tree) → Option ℕ
branch_kept s None x y = None
branch_kept s (Some true) x y = kept_if (stands_at s x) 1
branch_kept s (Some false) x y = kept_if (stands_at s y) 2

abbrev pub branch_of : Spot → Parts → Option ℕ
branch_of s (triple test x y) = branch_kept s (truth_known test.kind test.note test.below) x y
branch_of s p = None

abbrev pub conditional_keeps : Spot → Kind → (below : Forest) → Option ℕ
conditional_keeps s conditional_expression below = branch_of s (parts_of below)
conditional_keeps s k below = None

abbrev pub side_kept : Spot → (goes_right : Option Bool) → (left right : Tree) → Option ℕ
side_kept s None x y = None
side_kept s (Some true) x y = kept_if (stands_at s y) 1
side_kept s (Some false) x y = kept_if (stands_at s x) 0

abbrev pub side_of : Spot → LogicalOperator → Parts → Option ℕ
side_of s o (pair left right) = side_kept s (side_known o left.kind left.note left.below) left right
side_of s o p = None

abbrev pub logical_keeps : Spot → Kind → (below : Forest) → Option ℕ
logical_keeps s (logical_expression o) below = side_of s o (parts_of below)
logical_keeps s k below = None

-- no direct call of `eval`, whatever lies below
abbrev pub is_call : Kind → Bool
is_call (call_expression optional pure) = true
is_call k = false
