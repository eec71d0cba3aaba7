-- How a node is written: null for a hole, an array for a list, unary minus for a negative number, and else an object.
use Rattle.std.specs.Prelude.{suc, negsuc, List}
use Rattle.serde_json.specs.Data.{Data, null, array}
use Rattle.js_syntax.specs.declared.value.LiteralValue.{LiteralValue as Value}
use Rattle.js_syntax.specs.declared.value.LiteralValue.TheVariants.{Number as number}
use Rattle.js_syntax.specs.declared.node_kind.NodeKind.{NodeKind as Kind}
use Rattle.js_syntax.specs.declared.node_kind.NodeKind.TheVariants.{Literal as literal, Hole as hole, Statements as statements, Cases as cases, Declarators as declarators, Parameters as parameters, Members as members, Elements as elements, Properties as properties, Expressions as expressions, Arguments as arguments, Quasis as quasis, Specifiers as specifiers}
use Rattle.json_text.specs.Text.{items_of, minus}
use Rattle.json_entries.specs.declared.form.Form.{Form}
use Rattle.json_entries.specs.declared.form.Form.TheVariants.{Null, List as Array, Minus, Object}

abbrev pub value_form : Value → Form
value_form (number (negsuc n)) = Minus (suc n)
value_form v = Object

abbrev pub form_of : Kind → Form
form_of (literal v) = value_form v
form_of hole = Null
form_of statements = Array
form_of cases = Array
form_of declarators = Array
form_of parameters = Array
form_of members = Array
form_of elements = Array
form_of properties = Array
form_of expressions = Array
form_of arguments = Array
form_of quasis = Array
form_of specifiers = Array
form_of k = Object

-- what is written so, from the object of the node and what is written of the nodes below it
abbrev pub by_form : Form → Data → List Data → Data
by_form Null fields nodes = null
by_form Array fields nodes = array (items_of nodes)
by_form (Minus n) fields nodes = minus n
by_form Object fields nodes = fields
