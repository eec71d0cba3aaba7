-- A node is written by its form.
use Rattle.std.proofs.Common.{◌≡◌, List, pos, negsuc, refl}
use Rattle.serde_json.specs.Data.{Data}
use Rattle.js_syntax.specs.declared.value.LiteralValue.{LiteralValue as Value}
use Rattle.js_syntax.specs.declared.value.LiteralValue.TheVariants as value
use Rattle.js_syntax.specs.declared.node_kind.NodeKind.{NodeKind as Kind}
use Rattle.js_syntax.specs.declared.node_kind.NodeKind.TheVariants.{Literal as literal, Hole as hole, Function as function, Class as class, ExportNamedDeclaration as export_named_declaration}
use Rattle.js_syntax.specs.declared.kind.FunctionKind.{FunctionKind}
use Rattle.js_syntax.specs.declared.kind.FunctionKind.TheVariants as function_kind
use Rattle.js_syntax.specs.declared.kind.ClassKind.{ClassKind}
use Rattle.js_syntax.specs.declared.kind.ClassKind.TheVariants as class_kind
use Rattle.std.proofs.Common.{Bool, Option, Some, None, ℕ}
use Rattle.js_syntax.specs.Node.{Forest}
use Rattle.json_text.specs.Text.{node_data}
use Rattle.json_entries.specs.Members.{fields_data}
use Rattle.json_entries.specs.Form.{form_of, by_form}
use Rattle.json_entries.proofs.Ordered.{ordered}

abbrev Says : Kind → Type 0
Says k = (below : Forest) (nodes : List Data) → node_data k below nodes ≡ by_form (form_of k) (fields_data k below nodes) nodes

literal_written : (v : Value) → Says (literal v)
literal_written value.Null below nodes = ordered (literal value.Null) below nodes
literal_written (value.Boolean b) below nodes = ordered (literal (value.Boolean b)) below nodes
literal_written (value.Number (pos n)) below nodes = ordered (literal (value.Number (pos n))) below nodes
literal_written (value.Number (negsuc n)) below nodes = refl
literal_written (value.Text s) below nodes = ordered (literal (value.Text s)) below nodes

function_written : (how : FunctionKind) (pure : Bool) → Says (function how pure)
function_written function_kind.Declaration pure below nodes = ordered (function function_kind.Declaration pure) below nodes
function_written function_kind.Expression pure below nodes = ordered (function function_kind.Expression pure) below nodes
function_written function_kind.Arrow pure below nodes = ordered (function function_kind.Arrow pure) below nodes

class_written : (how : ClassKind) → Says (class how)
class_written class_kind.Declaration below nodes = ordered (class class_kind.Declaration) below nodes
class_written class_kind.Expression below nodes = ordered (class class_kind.Expression) below nodes

export_written : (source : Option (List ℕ)) → Says (export_named_declaration source)
export_written None below nodes = ordered (export_named_declaration None) below nodes
export_written (Some source) below nodes = ordered (export_named_declaration (Some source)) below nodes

pub written_by_form : (k : Kind) → Says k
written_by_form (literal v) below nodes = literal_written v below nodes
written_by_form (function how pure) below nodes = function_written how pure below nodes
written_by_form (class how) below nodes = class_written how below nodes
written_by_form (export_named_declaration source) below nodes = export_written source below nodes
written_by_form hole below nodes = refl
written_by_form k below nodes = ordered k below nodes
