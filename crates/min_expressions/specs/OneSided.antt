-- By which operator the branch of a conditional stays that acts alone, where nobody takes the value.
use Rattle.std.specs.Prelude.{ℕ, Option, Some, None, if◌then◌else◌}
use Rattle.js_syntax.specs.declared.node_kind.NodeKind.{NodeKind as Kind}
use Rattle.js_syntax.specs.declared.node_kind.NodeKind.TheVariants.{ConditionalExpression as conditional_expression}
use Rattle.js_syntax.specs.declared.operator.LogicalOperator.{LogicalOperator}
use Rattle.js_syntax.specs.declared.operator.LogicalOperator.TheVariants as logical
use Rattle.js_syntax.specs.Node.{Forest, Tree}
use Rattle.rules.specs.Expressions.Uses.{Spot}
use Rattle.min_expressions.specs.Kept.{Parts, triple, parts_of}
use Rattle.min_expressions.specs.Unused.{tree_acts}

abbrev pub operator_between : (consequent alternate : Tree) → Option LogicalOperator
operator_between y z = if tree_acts y then (if tree_acts z then None else Some logical.And) else (if tree_acts z then Some logical.Or else None)

abbrev pub operator_of_parts : Parts → Option LogicalOperator
operator_of_parts (triple x y z) = operator_between y z
operator_of_parts p = None

abbrev pub operator_for : Kind → (below : Forest) → Option LogicalOperator
operator_for conditional_expression below = operator_of_parts (parts_of below)
operator_for k below = None

abbrev pub stays_one_sided : Spot → Kind → (below : Forest) → Option LogicalOperator
stays_one_sided s k below = if s.is_unused then operator_for k below else None

-- the branch that leaves, by its index
abbrev pub leaving_at : LogicalOperator → ℕ
leaving_at logical.And = 2
leaving_at o = 1
