-- Expressions of which something may become, by their kinds alone.
use Rattle.std.specs.Prelude.{Bool, true, false}
use Rattle.js_syntax.specs.declared.node_kind.NodeKind.{NodeKind as Kind}
use Rattle.js_syntax.specs.declared.node_kind.NodeKind.TheVariants.{UnaryExpression as unary_expression, BinaryExpression as binary_expression, LogicalExpression as logical_expression, ConditionalExpression as conditional_expression, SequenceExpression as sequence_expression, ArrayExpression as array_expression, ObjectExpression as object_expression, TemplateLiteral as template_literal}

abbrev pub may_fold : Kind → Bool
may_fold (unary_expression o) = true
may_fold (binary_expression o) = true
may_fold (logical_expression o) = true
may_fold conditional_expression = true
may_fold sequence_expression = true
may_fold array_expression = true
may_fold object_expression = true
may_fold template_literal = true
may_fold k = false
