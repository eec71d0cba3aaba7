-- The value that a declaration gives in a branch of an `if` that isn't taken becomes a zero: it is never evaluated (ECMA-262 14.3.2.1,
-- 14.6.2).
use Rattle.std.specs.Prelude.{◌≡◌, Bool, true, false, ◌||◌, pos}
use Rattle.js_syntax.specs.declared.node_kind.NodeKind.{NodeKind as Kind}
use Rattle.js_syntax.specs.declared.node_kind.NodeKind.TheVariants.{VariableDeclaration as variable_declaration, Declarators as declarators, VariableDeclarator as variable_declarator, Literal as literal, ThisExpression as this_expression, ArrayExpression as array_expression, ObjectExpression as object_expression, SequenceExpression as sequence_expression, UnaryExpression as unary_expression, UpdateExpression as update_expression, BinaryExpression as binary_expression, LogicalExpression as logical_expression, AssignmentExpression as assignment_expression, ConditionalExpression as conditional_expression, CallExpression as call_expression, NewExpression as new_expression, MemberExpression as member_expression, TemplateLiteral as template_literal, TaggedTemplateExpression as tagged_template_expression}
use Rattle.js_syntax.specs.declared.value.LiteralValue.TheVariants as value
use Rattle.js_syntax.specs.Node.{Tree, Note, nothing}
use Rattle.scope_laws.specs.Place.{Around, first, behind, behind_none, under}
use Rattle.steps.specs.Allowed.Untaken.{runs_inside, led_by}

abbrev pub declares : Kind → Bool
declares (variable_declaration how) = true
declares declarators = true
declares variable_declarator = true
declares k = false

-- Statements, and declarations in them: not so the code of a function.
abbrev pub passes : Kind → Bool
passes k = runs_inside k || declares k

abbrev pub is_unrun : (untaken : Bool) → Around → Bool
is_unrun untaken a = led_by passes untaken a

-- whether it is what stands behind the name in a declarator
abbrev pub is_value_of : Kind → Around → Bool
is_value_of variable_declarator (behind k n below (first rest)) = true
is_value_of k a = false

abbrev pub is_value : Around → Bool
is_value (first rest) = false
is_value (behind k n below a) = is_value a
is_value (behind_none a) = is_value a
is_value (under k n a rest) = is_value_of k a || is_value a

-- Expressions but names, literals, functions and classes, and what stands for another in a chain or in parentheses.
abbrev pub may_be_dropped : Kind → Bool
may_be_dropped this_expression = true
may_be_dropped array_expression = true
may_be_dropped object_expression = true
may_be_dropped sequence_expression = true
may_be_dropped (unary_expression operator) = true
may_be_dropped (update_expression operator prefix) = true
may_be_dropped (binary_expression operator) = true
may_be_dropped (logical_expression operator) = true
may_be_dropped (assignment_expression operator) = true
may_be_dropped conditional_expression = true
may_be_dropped (call_expression optional pure) = true
may_be_dropped (new_expression pure) = true
may_be_dropped (member_expression key optional) = true
may_be_dropped template_literal = true
may_be_dropped tagged_template_expression = true
may_be_dropped k = false

abbrev pub a_zero : Note → Tree
a_zero n = record { kind = literal (value.Number (pos 0)); note = n; below = nothing }

pub data UnrunValue (a : Around) : (x y : Tree) → Type 0 where
  value_never_given : (n : Note) (x : Tree) → is_value a ≡ true → is_unrun false a ≡ true → may_be_dropped x.kind ≡ true → UnrunValue a x (a_zero n)
