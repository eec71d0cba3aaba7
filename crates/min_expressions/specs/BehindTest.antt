-- Which branch of a conditional leaves whose test acts, and whether the right side follows of a logical expression whose left one does.
use Rattle.std.specs.Prelude.{ℕ, Bool, true, false, Option, Some, None}
use Rattle.js_syntax.specs.declared.node_kind.NodeKind.{NodeKind as Kind}
use Rattle.js_syntax.specs.declared.node_kind.NodeKind.TheVariants.{ConditionalExpression as conditional_expression, LogicalExpression as logical_expression}
use Rattle.js_syntax.specs.declared.operator.LogicalOperator.{LogicalOperator}
use Rattle.js_syntax.specs.Node.{Forest}
use Rattle.steps.specs.Allowed.IndirectChoice.{truth_beside, way_beside}
use Rattle.min_expressions.specs.Kept.{Parts, pair, triple, parts_of}

-- by its index, the one that isn't taken
abbrev pub leaving : (truth : Option Bool) → Option ℕ
leaving None = None
leaving (Some true) = Some 2
leaving (Some false) = Some 1

abbrev pub leaving_of : Parts → Option ℕ
leaving_of (triple test x y) = leaving (truth_beside test.kind test.note test.below)
leaving_of p = None

abbrev pub branch_leaves : Kind → (below : Forest) → Option ℕ
branch_leaves conditional_expression below = leaving_of (parts_of below)
branch_leaves k below = None

abbrev pub is_so : Option Bool → Bool
is_so (Some true) = true
is_so known = false

abbrev pub follows_of : LogicalOperator → Parts → Bool
follows_of o (pair left right) = is_so (way_beside o left.kind left.note left.below)
follows_of o p = false

abbrev pub right_follows : Kind → (below : Forest) → Bool
right_follows (logical_expression o) below = follows_of o (parts_of below)
right_follows k below = false
