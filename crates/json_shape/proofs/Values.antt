-- Values that are written are read back.
use Rattle.std.proofs.Common.{◌≡◌, ℕ, pos, negsuc, List, Bool, true, false, Option, Some, None, Ok, Err, if◌then◌else◌, refl, ap, ap₂, ◌∙◌}
use Rattle.std.specs.Str.{bytes_eq}
use Rattle.std.proofs.lemmas.Slice.Eq.{bytes_eq-Decides}
use Rattle.serde_json.specs.Data.{Data}
use Rattle.js_syntax.specs.Name.{type_name, type_named}
use Rattle.js_syntax.specs.Word.{Words, source_types, variable_kinds, method_kinds, property_kinds, unary_operators, update_operators, binary_operators, logical_operators, assignment_operators, Word, word_name, word_named}
use Rattle.js_syntax.specs.declared.value.LiteralValue.{LiteralValue as Value}
use Rattle.js_syntax.specs.declared.value.LiteralValue.TheVariants as value
use Rattle.js_syntax.specs.declared.value.ModuleName.{ModuleName}
use Rattle.js_syntax.specs.declared.value.ModuleName.TheVariants.{Name as plain_name, Text as quoted_name}
use Rattle.js_syntax.specs.declared.node_kind.NodeKind.{NodeKind as Kind}
use Rattle.js_syntax.specs.declared.node_type.NodeType.{NodeType}
use Rattle.js_syntax.specs.declared.node_type.NodeType.TheVariants as type
use Rattle.js_syntax.specs.declared.scalar.SourceType.{SourceType}
use Rattle.js_syntax.specs.declared.scalar.SourceType.TheVariants as source_type
use Rattle.js_syntax.specs.declared.kind.VariableKind.{VariableKind}
use Rattle.js_syntax.specs.declared.kind.VariableKind.TheVariants as variable_kind
use Rattle.js_syntax.specs.declared.kind.MethodKind.{MethodKind}
use Rattle.js_syntax.specs.declared.kind.MethodKind.TheVariants as method_kind
use Rattle.js_syntax.specs.declared.kind.PropertyKind.{PropertyKind}
use Rattle.js_syntax.specs.declared.kind.PropertyKind.TheVariants as property_kind
use Rattle.js_syntax.specs.declared.operator.UnaryOperator.{UnaryOperator}
use Rattle.js_syntax.specs.declared.operator.UnaryOperator.TheVariants as unary_operator
use Rattle.js_syntax.specs.declared.operator.UpdateOperator.{UpdateOperator}
use Rattle.js_syntax.specs.declared.operator.UpdateOperator.TheVariants as update_operator
use Rattle.js_syntax.specs.declared.operator.BinaryOperator.{BinaryOperator}
use Rattle.js_syntax.specs.declared.operator.BinaryOperator.TheVariants as binary_operator
use Rattle.js_syntax.specs.declared.operator.LogicalOperator.{LogicalOperator}
use Rattle.js_syntax.specs.declared.operator.LogicalOperator.TheVariants as logical_operator
use Rattle.js_syntax.specs.declared.operator.AssignmentOperator.{AssignmentOperator}
use Rattle.js_syntax.specs.declared.operator.AssignmentOperator.TheVariants as assignment_operator
use Rattle.js_syntax.specs.Node.{Forest}
use Rattle.js_syntax.specs.Scalar.{the_module_name_or_null, the_template_text, the_reg_exp_text}
use Rattle.js_syntax.specs.Field.{Kept, a_text, a_flag, a_value, a_word, a_mark, a_name, maybe_name, a_module_name, maybe_module_name, a_source, a_template_text, a_reg_exp_text, Reads, Check, never, constant, fixed_name, null_only, hint, unread}
use Rattle.json_text.specs.Fault.{Fault, ◌>>=◌, fault_of, out_of_range}
use Rattle.json_text.specs.Plain.{type_at, read_text, read_text_or_null, read_flag, some_word, read_word, read_value, check_extra, check_extras, read_typed, read_or_null, read_name, read_source, read_module_name, read_template_text, read_reg_exp_text, read_kept, only_if, read_check}
use Rattle.json_text.specs.Text.{identifier, text_literal, value_data, module_name_data, scalar_data, check_scalar, is_identifier_name, or_null}
use Rattle.json_shape.specs.Exact.{is_exact, is_exact_value, is_exact_module_name}
use Rattle.json_shape.proofs.Facts.{scalar_of, IsKept}

-- what computes on the fields of a node that was written
unfoldable looked_at : Unit {0}
unfolding check_extra check_extras type_at type_named read_typed read_text read_text_or_null read_flag read_word read_value read_or_null read_name read_source read_module_name read_template_text read_reg_exp_text
looked_at = tt

-- ---- texts and words

same_bytes : (s : List ℕ) → bytes_eq s s ≡ true
same_bytes s = (bytes_eq-Decides s s).1 refl

pub type_read : (t : NodeType) → type_named (type_name t) ≡ Some t
unfolding type_named
type_read type.Program = refl
type_read t = refl

source_type_read : (x : SourceType) → word_named source_types (word_name source_types x) ≡ Some x
unfolding word_named
source_type_read source_type.Module = refl
source_type_read x = refl

variable_kind_read : (x : VariableKind) → word_named variable_kinds (word_name variable_kinds x) ≡ Some x
unfolding word_named
variable_kind_read variable_kind.Var = refl
variable_kind_read x = refl

method_kind_read : (x : MethodKind) → word_named method_kinds (word_name method_kinds x) ≡ Some x
unfolding word_named
method_kind_read method_kind.Constructor = refl
method_kind_read x = refl

property_kind_read : (x : PropertyKind) → word_named property_kinds (word_name property_kinds x) ≡ Some x
unfolding word_named
property_kind_read property_kind.Init = refl
property_kind_read x = refl

unary_operator_read : (x : UnaryOperator) → word_named unary_operators (word_name unary_operators x) ≡ Some x
unfolding word_named
unary_operator_read unary_operator.LogicalNot = refl
unary_operator_read x = refl

update_operator_read : (x : UpdateOperator) → word_named update_operators (word_name update_operators x) ≡ Some x
unfolding word_named
update_operator_read update_operator.Increment = refl
update_operator_read x = refl

binary_operator_read : (x : BinaryOperator) → word_named binary_operators (word_name binary_operators x) ≡ Some x
unfolding word_named
binary_operator_read binary_operator.Equality = refl
binary_operator_read x = refl

logical_operator_read : (x : LogicalOperator) → word_named logical_operators (word_name logical_operators x) ≡ Some x
unfolding word_named
logical_operator_read logical_operator.Or = refl
logical_operator_read x = refl

assignment_operator_read : (x : AssignmentOperator) → word_named assignment_operators (word_name assignment_operators x) ≡ Some x
unfolding word_named
assignment_operator_read assignment_operator.Assign = refl
assignment_operator_read x = refl

word_read : (w : Words) (x : Word w) → word_named w (word_name w x) ≡ Some x
word_read source_types x = source_type_read x
word_read variable_kinds x = variable_kind_read x
word_read method_kinds x = method_kind_read x
word_read property_kinds x = property_kind_read x
word_read unary_operators x = unary_operator_read x
word_read update_operators x = update_operator_read x
word_read binary_operators x = binary_operator_read x
word_read logical_operators x = logical_operator_read x
word_read assignment_operators x = assignment_operator_read x

-- ---- what a kind keeps

abbrev module_name_bytes : ModuleName → List ℕ
module_name_bytes (plain_name s) = s
module_name_bytes (quoted_name s) = s

value_read : (bad : Fault) (v : Value) → is_exact_value v ≡ true → read_value bad None (Some (value_data v)) ≡ Ok v
unfolding looked_at
value_read bad value.Null exact = refl
value_read bad (value.Boolean b) exact = refl
value_read bad (value.Number (pos n)) exact = ap (λ (b : Bool). if b then Ok (value.Number (pos n)) else Err out_of_range) exact
value_read bad (value.Number (negsuc n)) exact = absurd cc
value_read bad (value.Text s) exact = refl

identifier_read : (bad : Fault) (s : List ℕ) → read_name bad (Some (identifier s)) ≡ Ok s
unfolding looked_at
identifier_read bad s = refl

name_or_null_read : (bad : Fault) (s : Option (List ℕ)) → read_or_null (read_name bad) (Some (or_null identifier s)) ≡ Ok s
unfolding looked_at
name_or_null_read bad None = refl
name_or_null_read bad (Some s) = refl

module_name_at : (b : Bool) (bad : Fault) (s : List ℕ) → b ≡ true → read_module_name bad (Some (if b then identifier s else text_literal s)) ≡ Ok (plain_name s)
unfolding looked_at
module_name_at true bad s is = refl
module_name_at false bad s is = absurd cc

module_name_read : (bad : Fault) (m : ModuleName) → is_exact_module_name m ≡ true → read_module_name bad (Some (module_name_data m)) ≡ Ok m
unfolding looked_at
module_name_read bad (plain_name s) exact = module_name_at (is_identifier_name s) bad s exact
module_name_read bad (quoted_name s) exact = refl

-- what is written of a module's name is no null
module_name_there : (bad : Fault) (m : ModuleName) (b : Bool) → is_identifier_name (module_name_bytes m) ≡ b → read_or_null (read_module_name bad) (Some (module_name_data m)) ≡ (read_module_name bad (Some (module_name_data m)) >>= λ x. Ok (Some x))
unfolding looked_at
module_name_there bad (plain_name s) true is = rw is refl
module_name_there bad (plain_name s) false is = rw is refl
module_name_there bad (quoted_name s) b is = refl

module_name_or_null_read : (bad : Fault) (m : Option ModuleName) → is_exact (the_module_name_or_null m) ≡ true → read_or_null (read_module_name bad) (Some (or_null module_name_data m)) ≡ Ok m
unfolding looked_at
module_name_or_null_read bad None exact = refl
module_name_or_null_read bad (Some m) exact = module_name_there bad m (is_identifier_name (module_name_bytes m)) refl ∙ ap (λ r. r >>= λ x. Ok (Some x)) (module_name_read bad m exact)

template_text_read : (bad : Fault) (raw : List ℕ) (cooked : Option (List ℕ)) → read_template_text bad (Some (scalar_data (the_template_text (record { raw = raw; cooked = cooked })))) ≡ Ok (record { raw = raw; cooked = cooked })
unfolding looked_at
template_text_read bad raw None = refl
template_text_read bad raw (Some s) = refl

source_read : (bad : Fault) (s : List ℕ) → read_source bad (Some (text_literal s)) ≡ Ok s
unfolding looked_at
source_read bad s = refl

reg_exp_text_read : (bad : Fault) (pattern flags : List ℕ) → read_reg_exp_text bad (Some (scalar_data (the_reg_exp_text (record { pattern = pattern; flags = flags })))) ≡ Ok (record { pattern = pattern; flags = flags })
unfolding looked_at
reg_exp_text_read bad pattern flags = refl

pub kept_read : (k : Kept) (v : Reads k) (name : List ℕ) (d : Data) (t : NodeType) → IsKept k v name d → is_exact (scalar_of k v) ≡ true → read_kept k t name d ≡ Ok v
unfolding looked_at
kept_read a_text v name d t h exact = ap (read_text (fault_of t name)) h
kept_read a_flag v name d t h exact = ap (read_flag (fault_of t name)) h
kept_read a_value v name d t h exact = ap₂ (λ (raw found : Option Data). read_value (fault_of t name) raw found) h.1 h.0 ∙ value_read (fault_of t name) v exact
kept_read (a_word w) v name d t h exact = ap (read_word w (fault_of t name)) h ∙ ap (some_word (fault_of t name)) (word_read w v)
kept_read a_mark v name d t h exact = ap Ok h
kept_read a_name v name d t h exact = ap (read_name (fault_of t name)) h ∙ identifier_read (fault_of t name) v
kept_read maybe_name v name d t h exact = ap (read_or_null (read_name (fault_of t name))) h ∙ name_or_null_read (fault_of t name) v
kept_read a_module_name v name d t h exact = ap (read_module_name (fault_of t name)) h ∙ module_name_read (fault_of t name) v exact
kept_read maybe_module_name v name d t h exact = ap (read_or_null (read_module_name (fault_of t name))) h ∙ module_name_or_null_read (fault_of t name) v exact
kept_read a_source v name d t h exact = ap (read_source (fault_of t name)) h ∙ source_read (fault_of t name) v
kept_read a_template_text v name d t h exact = ap (read_template_text (fault_of t name)) h ∙ template_text_read (fault_of t name) v.raw v.cooked
kept_read a_reg_exp_text v name d t h exact = ap (read_reg_exp_text (fault_of t name)) h ∙ reg_exp_text_read (fault_of t name) v.pattern v.flags

-- ---- what it keeps nothing of

pub check_read : (c : Check) (k : Kind) (below : Forest) (bad : Fault) (found : Option Data) → found ≡ Some (scalar_data (check_scalar c k below)) → read_check c bad found ≡ Ok tt
unfolding looked_at read_check
check_read never k below bad found h = ap (read_check never bad) h
check_read (constant s) k below bad found h = ap (read_check (constant s) bad) h ∙ ap (λ (b : Bool). only_if b bad) (same_bytes s)
check_read (fixed_name s) k below bad found h = ap (read_check (fixed_name s) bad) h ∙ ap (λ (b : Bool). only_if b bad) (same_bytes s)
check_read null_only k below bad found h = ap (read_check null_only bad) h
check_read (hint flag) k below bad found h = ap (read_check (hint flag) bad) h
check_read (unread s) k below bad found h = refl
