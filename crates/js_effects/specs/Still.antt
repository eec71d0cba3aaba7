-- What does nothing that anybody could see, whatever lies below it.
use Rattle.std.specs.Prelude.{Bool, true, false}
use Rattle.js_syntax.specs.declared.node_kind.NodeKind.{NodeKind as Kind}
use Rattle.js_syntax.specs.declared.node_kind.NodeKind.TheVariants.{Literal as literal, RegExp as reg_exp, Function as function, Hole as hole, NewTarget as new_target, TemplateElement as template_element}
use Rattle.js_syntax.specs.declared.operator.UnaryOperator.{UnaryOperator}
use Rattle.js_syntax.specs.declared.operator.UnaryOperator.TheVariants as unary
use Rattle.js_syntax.specs.declared.kind.FunctionKind.{FunctionKind}
use Rattle.js_syntax.specs.declared.kind.FunctionKind.TheVariants as function_kind

abbrev pub is_expression : FunctionKind → Bool
is_expression function_kind.Declaration = false
is_expression how = true

-- Literals, functions, arrows and `new.target` (ECMA-262 13.2.3, 13.2.7, 13.3.12, 15.2.5, 15.3.4), the holes of arrays, and the
-- texts of a template.
abbrev pub is_value : Kind → Bool
is_value (literal v) = true
is_value (reg_exp x) = true
is_value (function how pure) = is_expression how
is_value new_target = true
is_value hole = true
is_value (template_element value tail) = true
is_value k = false

-- `!`, `void` and `typeof` convert nothing (13.5)
abbrev pub converts_nothing : UnaryOperator → Bool
converts_nothing unary.LogicalNot = true
converts_nothing unary.Void = true
converts_nothing unary.Typeof = true
converts_nothing operator = false
