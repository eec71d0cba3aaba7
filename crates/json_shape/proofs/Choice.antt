-- Which row a node that was written is read by.
use Rattle.std.proofs.Common.{◌≡◌, pos, negsuc, List, [], ◌∷◌, Bool, true, false, ◌&&◌, Some, if◌then◌else◌, refl, ap, arith}
use Rattle.js_syntax.specs.declared.value.LiteralValue.{LiteralValue as Value}
use Rattle.js_syntax.specs.declared.value.LiteralValue.TheVariants as value
use Rattle.js_syntax.specs.declared.node_kind.NodeKind.{NodeKind as Kind}
use Rattle.js_syntax.specs.declared.node_kind.NodeKind.TheVariants.{Literal as literal_kind, Statements as statements, Cases as cases, Declarators as declarators, Parameters as parameters, Members as members, Elements as elements, Properties as properties, Expressions as expressions, Arguments as arguments, Quasis as quasis, Specifiers as specifiers}
use Rattle.js_syntax.specs.Node.{Note, Forest, alone}
use Rattle.js_syntax.specs.Class.{a_prologue, private_key}
use Rattle.js_syntax.specs.Field.{each, each_or_hole, Field, field}
use Rattle.js_syntax.specs.Table.{Row, a_program, a_directive, a_literal, a_text_literal, a_property, a_method_property, a_binary_expression, an_in_expression, an_assignment_expression, a_compound_assignment, an_export_list, an_export_declaration, an_export_from, a_parenthesized_target, fields_of, type_of, stands}
use Rattle.js_syntax.specs.declared.node_type.NodeType.{NodeType}
use Rattle.js_syntax.specs.declared.node_type.NodeType.TheVariants as type
use Rattle.serde_json.specs.Data.{Data, array}
use Rattle.json_text.specs.Plain.{is_there}
use Rattle.json_text.specs.Reading.{row_here, made}
use Rattle.json_text.specs.Text.{items_of, first_or_null, node_data}
use Rattle.json_shape.specs.Shape.{Values, kind_in, first_of, is_text, IsChosen, is_directive_kind}
use Rattle.json_shape.specs.Exact.{inexact}
use Rattle.json_shape.proofs.Facts.{data_in}

pub made_is : (r : Row) (vs : Values (fields_of r)) (k : Kind) (n : Note) (below : Forest) → IsChosen r vs → made r k n below ≡ alone k n below
made_is a_parenthesized_target vs k n below chosen = absurd chosen
made_is r vs k n below chosen = refl

-- whether an export has a declaration
abbrev pub IsDeclared : Row → List Data → Type 0
IsDeclared an_export_list nodes = is_there (Some (first_or_null nodes)) ≡ false
IsDeclared an_export_declaration nodes = is_there (Some (first_or_null nodes)) ≡ true
IsDeclared an_export_from nodes = is_there (Some (first_or_null nodes)) ≡ false
IsDeclared r nodes = Unit {0}

literal_row : (v : Value) (below : Forest) (nodes : List Data) → inexact (literal_kind v) ≡ 0 → row_here (node_data (literal_kind v) below nodes) (Some a_literal) ≡ Some a_literal
unfolding row_here
literal_row value.Null below nodes exact = refl
literal_row (value.Boolean b) below nodes exact = refl
literal_row (value.Number (pos n)) below nodes exact = refl
literal_row (value.Number (negsuc n)) below nodes exact = absurd (omega (arith, exact))
literal_row (value.Text s) below nodes exact = refl

text_row : (v : Value) (below : Forest) (nodes : List Data) → is_text v ≡ true → row_here (node_data (literal_kind v) below nodes) (Some a_text_literal) ≡ Some a_text_literal
unfolding row_here
text_row (value.Text s) below nodes text = refl
text_row v below nodes text = absurd cc

pub row_read : (r : Row) (vs : Values (fields_of r)) (below : Forest) (nodes : List Data) → IsChosen r vs → inexact (kind_in r vs) ≡ 0 → IsDeclared r nodes
    → row_here (data_in r vs below nodes) (Some (first_of r)) ≡ Some r
unfolding row_here
row_read a_literal vs below nodes chosen exact declared = literal_row vs.0 below nodes exact
row_read a_text_literal vs below nodes chosen exact declared = text_row vs.0 below nodes chosen
row_read a_binary_expression vs below nodes chosen exact declared = ap (λ (b : Bool). if b then Some an_in_expression else Some a_binary_expression) chosen
row_read an_in_expression vs below nodes chosen exact declared = ap (λ (b : Bool). if b then Some an_in_expression else Some a_binary_expression) chosen
row_read an_assignment_expression vs below nodes chosen exact declared = ap (λ (b : Bool). if b then Some an_assignment_expression else Some a_compound_assignment) chosen
row_read a_compound_assignment vs below nodes chosen exact declared = ap (λ (b : Bool). if b then Some an_assignment_expression else Some a_compound_assignment) chosen
row_read a_property vs below nodes chosen exact declared = ap (λ (b : Bool). if b then Some a_method_property else Some a_property) chosen
row_read a_method_property vs below nodes chosen exact declared = ap (λ (b : Bool). if b then Some a_method_property else Some a_property) chosen
row_read an_export_list vs below nodes chosen exact declared = ap (λ (b : Bool). if b then Some an_export_declaration else Some an_export_list) declared
row_read an_export_declaration vs below nodes chosen exact declared = ap (λ (b : Bool). if b then Some an_export_declaration else Some an_export_list) declared
row_read an_export_from vs below nodes chosen exact declared = ap (λ (b : Bool). if b then Some an_export_declaration else Some an_export_from) declared
row_read a_parenthesized_target vs below nodes chosen exact declared = absurd chosen
row_read r vs below nodes chosen exact declared = refl

-- what stands where a directive may stand is one
pub directive_kind : (r : Row) (vs : Values (fields_of r)) → stands a_prologue (type_of r) ≡ Some (first_of r) → is_directive_kind (kind_in r vs) ≡ true
directive_kind a_directive vs h = refl
directive_kind r vs h = absurd cc

pub private_type : (t : NodeType) (r : Row) → stands private_key t ≡ Some r → t ≡ type.PrivateIdentifier
private_type type.PrivateIdentifier r h = refl
private_type t r h = absurd cc

-- ---- lists

abbrev pub is_list_kind : Kind → Bool
is_list_kind statements = true
is_list_kind cases = true
is_list_kind declarators = true
is_list_kind parameters = true
is_list_kind members = true
is_list_kind elements = true
is_list_kind properties = true
is_list_kind expressions = true
is_list_kind arguments = true
is_list_kind quasis = true
is_list_kind specifiers = true
is_list_kind k = false

-- each list of the fields is one
abbrev pub are_lists : List Field → Bool
are_lists [] = true
are_lists (field name (each kind c) ∷ fs) = is_list_kind kind && are_lists fs
are_lists (field name (each_or_hole kind c) ∷ fs) = is_list_kind kind && are_lists fs
are_lists (field name sort ∷ fs) = are_lists fs

pub lists_in : (r : Row) → are_lists (fields_of r) ≡ true
lists_in a_program = refl
lists_in r = refl

pub list_data : (k : Kind) (below : Forest) (nodes : List Data) → is_list_kind k ≡ true → node_data k below nodes ≡ array (items_of nodes)
list_data statements below nodes h = refl
list_data cases below nodes h = refl
list_data declarators below nodes h = refl
list_data parameters below nodes h = refl
list_data members below nodes h = refl
list_data elements below nodes h = refl
list_data properties below nodes h = refl
list_data expressions below nodes h = refl
list_data arguments below nodes h = refl
list_data quasis below nodes h = refl
list_data specifiers below nodes h = refl
list_data k below nodes h = absurd cc
