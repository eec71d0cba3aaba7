-- Of which type the value of an expression is, as far as its form tells (ECMA-262 6.1).
use Rattle.std.specs.Prelude.{ℕ, List, Bool, true, false, ◌&&◌, ◌||◌, Option, Some, None, codes, get_or, if◌then◌else◌}
use Rattle.std.specs.List.{list_all}
use Rattle.std.specs.Str.{bytes_eq}
use Rattle.js_syntax.specs.declared.node_kind.NodeKind.{NodeKind as Kind}
use Rattle.js_syntax.specs.declared.node_kind.NodeKind.TheVariants as kind
use Rattle.js_syntax.specs.declared.value.LiteralValue.{LiteralValue}
use Rattle.js_syntax.specs.declared.value.LiteralValue.TheVariants as literal
use Rattle.js_syntax.specs.declared.operator.UnaryOperator.{UnaryOperator}
use Rattle.js_syntax.specs.declared.operator.UnaryOperator.TheVariants as unary
use Rattle.js_syntax.specs.declared.operator.BinaryOperator.{BinaryOperator}
use Rattle.js_syntax.specs.declared.operator.BinaryOperator.TheVariants as binary
use Rattle.js_syntax.specs.Node.{Forest, Note}
use Rattle.js_effects.specs.declared.value.ValueType.{ValueType}
use Rattle.js_effects.specs.declared.value.ValueType.TheVariants.{Undefined, Null, Number, Boolean, String, Object, Undetermined}
use Rattle.js_effects.specs.declared.value.ConstantValue.{ConstantValue}
use Rattle.js_effects.specs.declared.value.ConstantValue.TheVariants as constant
use Rattle.js_effects.specs.declared.form.Form.{Form}
use Rattle.js_effects.specs.declared.form.Form.TheVariants as form
use Rattle.js_effects.specs.Answers.{Answers}
use Rattle.js_effects.specs.Forms.{form_of}
use Rattle.js_effects.specs.Each.{of_each, of_first, last}

abbrev pub type_of_constant : ConstantValue → ValueType
type_of_constant (constant.Number z) = Number
type_of_constant (constant.Text s) = String
type_of_constant (constant.Boolean b) = Boolean
type_of_constant constant.Null = Null
type_of_constant constant.Undefined = Undefined

abbrev pub is_primitive : ValueType → Bool
is_primitive Object = false
is_primitive Undetermined = false
is_primitive t = true

abbrev pub common : ValueType → ValueType → ValueType
common Undefined Undefined = Undefined
common Null Null = Null
common Number Number = Number
common Boolean Boolean = Boolean
common String String = String
common Object Object = Object
common s t = Undetermined

abbrev pub literal_type : LiteralValue → ValueType
literal_type literal.Null = Null
literal_type (literal.Boolean b) = Boolean
literal_type (literal.Number z) = Number
literal_type (literal.Text s) = String

abbrev pub is_named_undefined : Kind → Bool
is_named_undefined (kind.ReferenceName x) = bytes_eq x (codes "undefined")
is_named_undefined k = false

-- the global `undefined` (19.1.4)
abbrev pub is_global_undefined : Answers → Kind → Note → Bool
is_global_undefined A k n = is_named_undefined k && A.names.is_global k n

abbrev pub or_undetermined : Option ValueType → ValueType
or_undetermined (Some t) = t
or_undetermined None = Undetermined

abbrev pub type_by_number : (ℕ → Option ValueType) → Option ℕ → ValueType
type_by_number constant_type (Some i) = or_undetermined (constant_type i)
type_by_number constant_type None = Undetermined

-- of a name; within `with` it may be a property of its object
abbrev pub type_of_name : Answers → Kind → Note → ValueType
type_of_name A k n = if A.effects.inside_with then Undetermined else if is_global_undefined A k n then Undefined else type_by_number A.names.constant_type n.id

abbrev pub of_primitives : Bool → ValueType → ValueType
of_primitives true t = t
of_primitives false t = Undetermined

-- `+` joins where one side is a text (13.15.3)
abbrev pub sum_type : ValueType → ValueType → ValueType
sum_type String t = String
sum_type s String = String
sum_type s t = Number

-- 13.5
abbrev pub unary_type : UnaryOperator → ValueType → ValueType
unary_type unary.LogicalNot t = Boolean
unary_type unary.Typeof t = String
unary_type unary.Void t = Undefined
unary_type unary.Delete t = Undetermined
unary_type o t = of_primitives (is_primitive t) Number

-- 13.10, 13.11
abbrev pub compares : BinaryOperator → Bool
compares binary.Equality = true
compares binary.Inequality = true
compares binary.StrictEquality = true
compares binary.StrictInequality = true
compares binary.LessThan = true
compares binary.LessEqualThan = true
compares binary.GreaterThan = true
compares binary.GreaterEqualThan = true
compares o = false

-- `in` and `instanceof` (13.10.1)
abbrev pub asks_an_object : BinaryOperator → Bool
asks_an_object binary.In = true
asks_an_object binary.Instanceof = true
asks_an_object o = false

-- 13.6 to 13.9, 13.12
abbrev pub arithmetic_type : BinaryOperator → ValueType → ValueType → ValueType
arithmetic_type binary.Addition s t = sum_type s t
arithmetic_type o s t = Number

abbrev pub binary_type : BinaryOperator → ValueType → ValueType → ValueType
binary_type o s t = if compares o || asks_an_object o then Boolean else of_primitives (is_primitive s && is_primitive t) (arithmetic_type o s t)

-- of what lies at a place of a row, given the types of the row
abbrev pub type_at : ℕ → List ValueType → ValueType
type_at i ts = get_or ts i Undetermined

abbrev pub type_of_literal : Kind → ValueType
type_of_literal (kind.Literal v) = literal_type v
type_of_literal k = Undetermined

-- of a node of a form, given the types of what lies below it
abbrev pub type_by : Answers → Form → Kind → Note → List ValueType → ValueType
type_by A form.Literal k n ts = type_of_literal k
type_by A form.Object k n ts = Object
type_by A form.New k n ts = Undetermined
type_by A form.Template k n ts = String
type_by A form.Name k n ts = type_of_name A k n
type_by A form.First k n ts = type_at 0 ts
type_by A form.Last k n ts = last Undetermined ts
type_by A form.Right k n ts = type_at 1 ts
type_by A form.Conditional k n ts = common (type_at 1 ts) (type_at 2 ts)
type_by A (form.Logical o) k n ts = common (type_at 0 ts) (type_at 1 ts)
type_by A (form.Unary o) k n ts = unary_type o (type_at 0 ts)
type_by A (form.Binary o) k n ts = binary_type o (type_at 0 ts) (type_at 1 ts)
type_by A form.Other k n ts = Undetermined

abbrev pub type_from : Answers → Kind → Note → (below : Forest) → List ValueType → ValueType
type_from A k n a ts = type_by A (form_of k) k n ts

-- of each node of a row
abbrev pub types : Answers → Forest → List ValueType
types A t = of_each (type_from A) Undetermined t

-- of what lies at a place of a row
abbrev pub part_type : Answers → ℕ → Forest → ValueType
part_type A i t = type_at i (types A t)

-- of the first node of a row
abbrev pub type_of : Answers → Forest → ValueType
type_of A t = of_first (type_from A) Undetermined t

abbrev pub all_primitive : List ValueType → Bool
all_primitive ts = list_all is_primitive ts
