-- What is read of a node before the node stands.
use Rattle.std.specs.Prelude.{List, ◌≡◌, Bool, true, false, Result, Ok, Err}
use Rattle.serde_json.specs.Data.{Data}
use Rattle.json_value.specs.View.{view, items_view}
use Rattle.json_value.specs.declared.value.Value as json
use Rattle.js_syntax.specs.declared.value.LiteralValue.{LiteralValue as Value}
use Rattle.js_syntax.specs.declared.value.LiteralValue.TheVariants.{Null as null, Boolean as boolean, Number as number, Text as text}
use Rattle.js_syntax.specs.declared.value.Key.{Key}
use Rattle.js_syntax.specs.declared.value.Key.TheVariants.{Text as key_text, Number as key_number}
use Rattle.js_syntax.specs.declared.value.ModuleName.{ModuleName}
use Rattle.js_syntax.specs.declared.value.ModuleName.TheVariants.{Name as plain_name, Text as quoted_name}
use Rattle.js_syntax.specs.declared.node_kind.NodeKind.TheVariants.{Statements as statements}
use Rattle.js_syntax.specs.Node.{Forest, nothing, absent}
use Rattle.json_text.specs.Fault.{Fault}
use Rattle.json_text.specs.Answer.{Fails}
use Rattle.json_text.specs.declared.error.TreeError.{TreeError}
use Rattle.json_text.specs.Plain.{Extra, true_is_refused, full_is_refused, value_is_refused}
use Rattle.json_text.specs.Reading.{Reader, read_or_hole, read_items, read_body, as_list}
use Rattle.json_table.specs.View.{class_view, list_view}
use Rattle.json_table.specs.declared.field.List as code_list
use Rattle.json_table.specs.declared.wanted.Wanted.{Wanted}
use Rattle.json_scan.specs.declared.kept.LiteralText.{LiteralText}
use Rattle.json_scan.specs.declared.kept.LiteralText.TheVariants as literal
use Rattle.json_scan.specs.declared.extra.Extra as code
use Rattle.json_scan.specs.declared.extra.Extra.TheVariants as extra
use Rattle.json_scan.specs.declared.name.ModuleNameText.{ModuleNameText}
use Rattle.json_scan.specs.declared.name.ModuleNameText.TheVariants as module_name
use Rattle.json_scan.specs.declared.name.KeyText.{KeyText}
use Rattle.json_scan.specs.declared.name.KeyText.TheVariants as key
use Rattle.json_scan.specs.declared.slot.Slot.{Slot}
use Rattle.json_scan.specs.declared.slot.Slot.TheVariants as in_slot

-- the value of a literal, whose text isn't copied yet
abbrev pub value_view : LiteralText → Value
value_view literal.Null = null
value_view (literal.Boolean b) = boolean b
value_view (literal.Number z) = number z
value_view (literal.Text s) = text s.now

abbrev pub extra_view : code.Extra → Extra
extra_view extra.TrueIsRefused = true_is_refused
extra_view extra.FullIsRefused = full_is_refused
extra_view extra.ValueIsRefused = value_is_refused

abbrev pub module_name_view : ModuleNameText → ModuleName
module_name_view (module_name.Name s) = plain_name s.now
module_name_view (module_name.Text s) = quoted_name s.now

abbrev pub key_view : KeyText → Key
key_view (key.Text s) = key_text s.now
key_view (key.Number n) = key_number n

-- ---- slots

-- an item of a list, which may be a hole where holes are taken
abbrev pub one_item : Bool → (Data → Result Forest Fault) → Data → Result Forest Fault
one_item true one = read_or_hole one
one_item false one = one

abbrev pub read_list_of : Reader → Fault → code_list.List → Wanted → Bool → List json.Value → Result Forest Fault
read_list_of below bad list wanted holes items = as_list (list_view list) (read_items (one_item holes (below (class_view wanted) bad)) (items_view items))

-- what is read of a slot: `bad` is the fault of its field
abbrev pub read_slot : Reader → Fault → Slot → Result Forest Fault
read_slot below bad in_slot.Scalar = Ok nothing
read_slot below bad in_slot.Nothing = Ok (absent nothing)
read_slot below bad (in_slot.Node wanted value) = below (class_view wanted) bad (view value.now)
read_slot below bad (in_slot.Items list wanted holes items) = read_list_of below bad list wanted holes items.now
read_slot below bad (in_slot.Body wanted items) = as_list statements (read_body below (class_view wanted) bad (items_view items.now))

-- what a slot answers: what is read of it is what is read of the field
abbrev pub Slots : (Reader → Result Forest Fault) → Fault → Result Slot TreeError → Type 0
Slots whole bad (Ok s) = (below : Reader) → whole below ≡ read_slot below bad s
Slots whole bad (Err e) = (below : Reader) → Fails e (whole below)
