-- What code says of an expression's use, and of who takes its value.
use Rattle.std.specs.Prelude.{Bool, true, false}
use Rattle.min_context.specs.declared.ancestor.Ancestor.{Ancestor}
use Rattle.min_context.specs.declared.ancestor.Ancestor.TheVariants as ancestor
use Rattle.min_context.specs.declared.ancestor.Parent.{Parent}
use Rattle.min_context.specs.declared.ancestor.Parent.TheVariants as parent
use Rattle.steps.specs.Allowed.Uses.{Use, as_value, as_callee, as_typed, as_deleted}
use Rattle.steps.specs.Allowed.Unused as unused
use Rattle.min_expressions.specs.declared.uses.Taker.{Taker}
use Rattle.min_expressions.specs.declared.uses.Taker.TheVariants as said
use Rattle.min_expressions.specs.declared.uses.Use.{Use as Answer}
use Rattle.min_expressions.specs.declared.uses.Use.TheVariants as answer

abbrev pub told : Answer → Use
told answer.Value = as_value
told answer.Callee = as_callee
told answer.Typed = as_typed
told answer.Deleted = as_deleted

abbrev pub taker : Taker → unused.Taker
taker said.Somebody = unused.somebody
taker said.Nobody = unused.nobody
taker said.LastAlone = unused.last_alone

-- whether it is for what stands around a node to tell who takes the value of what stands below it
abbrev pub hands_on_under : Parent → Bool
hands_on_under parent.ParenthesizedExpression = true
hands_on_under parent.SequenceExpression = true
hands_on_under (parent.Expressions more) = true
hands_on_under parent.LogicalExpression = true
hands_on_under parent.ConditionalExpression = true
hands_on_under p = false

abbrev pub hands_on : Ancestor → Bool
hands_on (ancestor.Field p at) = hands_on_under p
hands_on ancestor.None = false
