-- Which part of a conditional or of a logical expression comes to stand behind a zero, by its index.
use Rattle.std.specs.Prelude.{ℕ, Bool, true, false, Option, Some, None}
use Rattle.js_syntax.specs.declared.node_kind.NodeKind.{NodeKind as Kind}
use Rattle.js_syntax.specs.declared.node_kind.NodeKind.TheVariants.{ConditionalExpression as conditional_expression, LogicalExpression as logical_expression}
use Rattle.js_syntax.specs.declared.operator.LogicalOperator.{LogicalOperator}
use Rattle.js_syntax.specs.Node.{Forest, Tree, Note}
use Rattle.steps.specs.Allowed.IndirectChoice.{behind_zero}
use Rattle.steps.specs.Allowed.KnownConditional.{truth_known}
use Rattle.steps.specs.Allowed.KnownSide.{side_known}
use Rattle.rules.specs.Expressions.Lists.{new_note}
use Rattle.rules.specs.Expressions.Uses.{Spot}
use Rattle.min_expressions.specs.Kept.{matters_at, kept_if, Parts, pair, triple, parts_of}

abbrev pub branch_behind : Spot → (truth : Option Bool) → (consequent alternate : Tree) → Option ℕ
branch_behind s None x y = None
branch_behind s (Some true) x y = kept_if (matters_at s x) 1
branch_behind s (Some false) x y = kept_if (matters_at s y) 2

abbrev pub branch_of : Spot → Parts → Option ℕ
branch_of s (triple test x y) = branch_behind s (truth_known test.kind test.note test.below) x y
branch_of s p = None

abbrev pub side_behind : Spot → (goes_right : Option Bool) → (right : Tree) → Option ℕ
side_behind s (Some true) x = kept_if (matters_at s x) 1
side_behind s known x = None

abbrev pub side_of : Spot → LogicalOperator → Parts → Option ℕ
side_of s o (pair left right) = side_behind s (side_known o left.kind left.note left.below) right
side_of s o p = None

abbrev pub goes_behind : Spot → Kind → (below : Forest) → Option ℕ
goes_behind s conditional_expression below = branch_of s (parts_of below)
goes_behind s (logical_expression o) below = side_of s o (parts_of below)
goes_behind s k below = None

-- (0, part), where the whole stood
abbrev pub put_behind : Note → (part : Tree) → Tree
put_behind n x = behind_zero (new_note n) (new_note n) (new_note n) x
