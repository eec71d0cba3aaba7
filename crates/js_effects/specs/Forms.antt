-- Which expressions tell their value's type, the value or whether it is true in a test: by what of them.
use Rattle.js_syntax.specs.declared.node_kind.NodeKind.{NodeKind as Kind}
use Rattle.js_syntax.specs.declared.node_kind.NodeKind.TheVariants as kind
use Rattle.js_syntax.specs.declared.operator.AssignmentOperator.{AssignmentOperator}
use Rattle.js_syntax.specs.declared.operator.AssignmentOperator.TheVariants as assignment
use Rattle.js_effects.specs.declared.form.Form.{Form}
use Rattle.js_effects.specs.declared.form.Form.TheVariants.{Literal, Object, New, Template, Name, First, Last, Right, Conditional, Logical, Unary, Binary, Other}

-- only `=` gives its right side as it is (ECMA-262 13.15.2)
abbrev pub assignment_form : AssignmentOperator → Form
assignment_form assignment.Assign = Right
assignment_form o = Other

abbrev pub form_of : Kind → Form
form_of (kind.Literal v) = Literal
form_of (kind.RegExp x) = Object
form_of (kind.Function f pure) = Object
form_of (kind.Class how) = Object
form_of kind.ArrayExpression = Object
form_of kind.ObjectExpression = Object
form_of (kind.NewExpression pure) = New
form_of kind.TemplateLiteral = Template
form_of (kind.ReferenceName x) = Name
form_of kind.ParenthesizedExpression = First
form_of kind.SequenceExpression = First
form_of kind.Expressions = Last
form_of (kind.AssignmentExpression o) = assignment_form o
form_of kind.ConditionalExpression = Conditional
form_of (kind.LogicalExpression o) = Logical o
form_of (kind.UnaryExpression o) = Unary o
form_of (kind.BinaryExpression o) = Binary o
form_of k = Other
