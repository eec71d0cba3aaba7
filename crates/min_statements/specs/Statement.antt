-- Statements that are an expression alone.
use Rattle.std.specs.Prelude.{Bool, true, false}
use Rattle.js_syntax.specs.declared.node_kind.NodeKind.{NodeKind as Kind}
use Rattle.js_syntax.specs.declared.node_kind.NodeKind.TheVariants.{ExpressionStatement as expression_statement}

abbrev pub is_expression : Kind → Bool
is_expression expression_statement = true
is_expression k = false
