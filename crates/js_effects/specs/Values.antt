-- Which value an expression has, or whether it is true in a test, as far as its form tells. Numbers are whole, and within
-- 2^53 - 1: what would leave that, or give a fraction, a negative zero, NaN or an infinity, has no value here.
use Rattle.std.specs.Prelude.{ℕ, zero, ℤ, pos, negsuc, ◌+ℤ◌, ◌-ℤ◌, ◌*ℤ◌, neg_ℤ, unsigned_abs, int_lt, int_le, int_div, int_rem, nat_eq, nat_le, List, [], ◌∷◌, ◌++◌, Bool, true, false, not, ◌&&◌, ◌||◌, Option, Some, None, codes, get_or, if◌then◌else◌}
use Rattle.std.specs.Str.{bytes_eq}
use Rattle.js_syntax.specs.declared.node_kind.NodeKind.{NodeKind as Kind}
use Rattle.js_syntax.specs.declared.node_kind.NodeKind.TheVariants as kind
use Rattle.js_syntax.specs.declared.value.LiteralValue.{LiteralValue}
use Rattle.js_syntax.specs.declared.value.LiteralValue.TheVariants as literal
use Rattle.js_syntax.specs.declared.operator.UnaryOperator.{UnaryOperator}
use Rattle.js_syntax.specs.declared.operator.UnaryOperator.TheVariants as unary
use Rattle.js_syntax.specs.declared.operator.BinaryOperator.{BinaryOperator}
use Rattle.js_syntax.specs.declared.operator.BinaryOperator.TheVariants as binary
use Rattle.js_syntax.specs.declared.operator.LogicalOperator.{LogicalOperator}
use Rattle.js_syntax.specs.declared.operator.LogicalOperator.TheVariants as logical
use Rattle.js_syntax.specs.Node.{Forest, Note, Tree}
use Rattle.js_effects.specs.declared.value.ValueType.{ValueType}
use Rattle.js_effects.specs.declared.value.ValueType.TheVariants as type
use Rattle.js_effects.specs.declared.value.ConstantValue.{ConstantValue}
use Rattle.js_effects.specs.declared.value.ConstantValue.TheVariants.{Number, Text, Boolean, Null, Undefined}
use Rattle.js_effects.specs.declared.form.Form.{Form}
use Rattle.js_effects.specs.declared.form.Form.TheVariants as form
use Rattle.js_effects.specs.Answers.{Answers}
use Rattle.js_effects.specs.Forms.{form_of}
use Rattle.js_effects.specs.Each.{of_each, of_first, last, inner_at}
use Rattle.js_effects.specs.Kinds.{is_global_undefined, types, type_at}

-- What is known: the value, or only whether it is true, or nothing.
pub data Known : Type 0 where
  exactly : ConstantValue → Known
  only_truth : Bool → Known
  unknown : Known

abbrev pub value : Known → Option ConstantValue
value (exactly c) = Some c
value k = None

abbrev pub is_exact : Known → Bool
is_exact (exactly c) = true
is_exact k = false

-- the value and no less
abbrev pub exact : Known → Known
exact (exactly c) = exactly c
exact k = unknown

-- ---- constants

abbrev pub literal_constant : LiteralValue → ConstantValue
literal_constant literal.Null = Null
literal_constant (literal.Boolean b) = Boolean b
literal_constant (literal.Number z) = Number z
literal_constant (literal.Text s) = Text s

abbrev pub is_undefined : ConstantValue → Bool
is_undefined Undefined = true
is_undefined c = false

abbrev pub is_nullish : ConstantValue → Bool
is_nullish Undefined = true
is_nullish Null = true
is_nullish c = false

abbrev pub is_zero : ℤ → Bool
is_zero (pos zero) = true
is_zero z = false

abbrev pub is_negative : ℤ → Bool
is_negative (pos n) = false
is_negative (negsuc n) = true

abbrev pub is_empty : List ℕ → Bool
is_empty [] = true
is_empty (c ∷ cs) = false

-- ToBoolean (ECMA-262 7.1.2)
abbrev pub constant_truth : ConstantValue → Bool
constant_truth (Number z) = not (is_zero z)
constant_truth (Text s) = not (is_empty s)
constant_truth (Boolean b) = b
constant_truth Null = false
constant_truth Undefined = false

abbrev pub truth : Known → Option Bool
truth (exactly c) = Some (constant_truth c)
truth (only_truth b) = Some b
truth unknown = None

abbrev pub is_true : Known → Bool
is_true (exactly c) = constant_truth c
is_true (only_truth b) = b
is_true unknown = false

abbrev pub is_false : Known → Bool
is_false (exactly c) = not (constant_truth c)
is_false (only_truth b) = not b
is_false unknown = false

-- ---- arithmetic (6.1.6.1)

abbrev pub largest : ℕ
largest = 9007199254740991

abbrev pub whole : ℤ → Known
whole z = if nat_le (unsigned_abs z) largest then exactly (Number z) else unknown

-- a zero whose sign is negative where `minus` is true
abbrev pub signed : (minus : Bool) → ℤ → Known
signed minus z = if is_zero z && minus then unknown else whole z

abbrev pub times : ℤ → ℤ → Known
times a b = signed (is_negative a || is_negative b) (a *ℤ b)

abbrev pub divided : ℤ → ℤ → Known
divided a b = if is_zero b || not (is_zero (int_rem a b)) then unknown else signed (is_negative b) (int_div a b)

-- the sign is that of the dividend (6.1.6.1.6)
abbrev pub remainder : ℤ → ℤ → Known
remainder a b = if is_zero b then unknown else signed (is_negative a) (int_rem a b)

abbrev pub truth_value : Bool → Known
truth_value b = exactly (Boolean b)

abbrev pub on_numbers : BinaryOperator → ℤ → ℤ → Known
on_numbers binary.LessThan a b = truth_value (int_lt a b)
on_numbers binary.LessEqualThan a b = truth_value (int_le a b)
on_numbers binary.GreaterThan a b = truth_value (int_lt b a)
on_numbers binary.GreaterEqualThan a b = truth_value (int_le b a)
on_numbers binary.Addition a b = whole (a +ℤ b)
on_numbers binary.Subtraction a b = whole (a -ℤ b)
on_numbers binary.Multiplication a b = times a b
on_numbers binary.Division a b = divided a b
on_numbers binary.Remainder a b = remainder a b
on_numbers o a b = unknown

-- ---- equality

abbrev pub bool_eq : Bool → Bool → Bool
bool_eq true b = b
bool_eq false b = not b

abbrev pub int_eq : ℤ → ℤ → Bool
int_eq (pos a) (pos b) = nat_eq a b
int_eq (negsuc a) (negsuc b) = nat_eq a b
int_eq a b = false

-- of a known value: whether it is null or undefined, and whether it is this number, text or truth value
abbrev pub is_known_nullish : Known → Bool
is_known_nullish (exactly c) = is_nullish c
is_known_nullish k = false

abbrev pub is_known_number : ℤ → Known → Bool
is_known_number a (exactly (Number b)) = int_eq a b
is_known_number a k = false

abbrev pub is_known_text : List ℕ → Known → Bool
is_known_text s (exactly (Text t)) = bytes_eq s t
is_known_text s k = false

abbrev pub is_known_boolean : Bool → Known → Bool
is_known_boolean a (exactly (Boolean b)) = bool_eq a b
is_known_boolean a k = false

abbrev pub is_known_null : Known → Bool
is_known_null (exactly Null) = true
is_known_null k = false

abbrev pub is_known_undefined : Known → Bool
is_known_undefined (exactly Undefined) = true
is_known_undefined k = false

-- whether two known values are the same, where both are known
abbrev pub same_known : Known → Known → Bool
same_known (exactly (Number a)) k = is_known_number a k
same_known (exactly (Text a)) k = is_known_text a k
same_known (exactly (Boolean a)) k = is_known_boolean a k
same_known (exactly Null) k = is_known_null k
same_known (exactly Undefined) k = is_known_undefined k
same_known j k = false

-- whether both are known, and of one type
abbrev pub same_known_type : Known → Known → Bool
same_known_type (exactly (Number a)) (exactly (Number b)) = true
same_known_type (exactly (Text a)) (exactly (Text b)) = true
same_known_type (exactly (Boolean a)) (exactly (Boolean b)) = true
same_known_type (exactly Null) (exactly Null) = true
same_known_type (exactly Undefined) (exactly Undefined) = true
same_known_type j k = false

-- IsStrictlyEqual (7.2.15)
abbrev pub strictly_equal : Known → Known → Option Bool
strictly_equal a b = if is_exact a && is_exact b then Some (same_known a b) else None

-- IsLooselyEqual (7.2.14), where nothing is converted
abbrev pub loosely_equal : Known → Known → Option Bool
loosely_equal a b = if is_known_nullish a && is_known_nullish b then Some true else if same_known_type a b then Some (same_known a b) else None

abbrev pub negated : Option Bool → Option Bool
negated (Some b) = Some (not b)
negated None = None

-- a truth value as a value
abbrev pub tested : Option Bool → Known
tested (Some b) = truth_value b
tested None = unknown

-- ---- operators

abbrev pub on_known_numbers : BinaryOperator → Known → Known → Known
on_known_numbers o (exactly (Number a)) (exactly (Number b)) = on_numbers o a b
on_known_numbers o a b = unknown

-- of a binary operator on two values; `+` of texts is below
abbrev pub on_values : BinaryOperator → Known → Known → Known
on_values binary.StrictEquality a b = tested (strictly_equal a b)
on_values binary.StrictInequality a b = tested (negated (strictly_equal a b))
on_values binary.Equality a b = tested (loosely_equal a b)
on_values binary.Inequality a b = tested (negated (loosely_equal a b))
on_values o a b = on_known_numbers o a b

-- the text of a literal
abbrev pub text_of_kind : Kind → Option (List ℕ)
text_of_kind (kind.Literal (literal.Text s)) = Some s
text_of_kind k = None

abbrev pub text_of : Option Tree → Option (List ℕ)
text_of (Some t) = text_of_kind t.kind
text_of None = None

abbrev pub joined : Option (List ℕ) → Option (List ℕ) → Known
joined (Some s) (Some t) = exactly (Text (s ++ t))
joined s t = unknown

abbrev pub is_addition : BinaryOperator → Bool
is_addition binary.Addition = true
is_addition o = false

-- `+` of two literals that are texts joins them (13.15.3); of texts that only come out so nothing is known
abbrev pub binary_known : BinaryOperator → (left_text right_text : Option (List ℕ)) → (left right : Known) → Known
binary_known o s t a b = if is_addition o && is_exact (joined s t) then joined s t else on_values o a b

-- what `typeof` says of values of a type, of which those of functions and null aren't told apart from others (13.5.3)
abbrev pub typeof_known : ValueType → Known
typeof_known type.Undefined = exactly (Text (codes "undefined"))
typeof_known type.Number = exactly (Text (codes "number"))
typeof_known type.Boolean = exactly (Text (codes "boolean"))
typeof_known type.String = exactly (Text (codes "string"))
typeof_known t = unknown

abbrev pub minus_known : Known → Known
minus_known (exactly (Number z)) = signed true (neg_ℤ z)
minus_known k = unknown

abbrev pub plus_known : Known → Known
plus_known (exactly (Number z)) = whole z
plus_known k = unknown

-- 13.5
abbrev pub unary_known : UnaryOperator → ValueType → Known → Known
unary_known unary.LogicalNot t k = tested (negated (truth k))
unary_known unary.Void t k = exactly Undefined
unary_known unary.Typeof t k = typeof_known t
unary_known unary.UnaryNegation t k = minus_known k
unary_known unary.UnaryPlus t k = plus_known k
unary_known o t k = unknown

-- 13.13: what is false on either side makes `&&` false, what is true on either side makes `||` true
abbrev pub and_known : Known → Known → Known
and_known a b = if is_false a then a else if is_true a && is_exact b then b else if is_false b then only_truth false else unknown

abbrev pub or_known : Known → Known → Known
or_known a b = if is_true a then a else if is_false a && is_exact b then b else if is_true b then only_truth true else unknown

abbrev pub coalesce_known : Known → Known → Known
coalesce_known (exactly a) b = if is_nullish a then exact b else exactly a
coalesce_known a b = unknown

abbrev pub logical_known : LogicalOperator → Known → Known → Known
logical_known logical.And a b = and_known a b
logical_known logical.Or a b = or_known a b
logical_known logical.Coalesce a b = coalesce_known a b

-- 13.14
abbrev pub conditional_known : Known → Known → Known → Known
conditional_known test a b = if is_true test then exact a else if is_false test then exact b else unknown

abbrev pub known_constant : Option ConstantValue → Known
known_constant (Some c) = exactly c
known_constant None = unknown

abbrev pub known_by_number : (ℕ → Option ConstantValue) → Option ℕ → Known
known_by_number constant (Some i) = known_constant (constant i)
known_by_number constant None = unknown

abbrev pub known_of_name : Answers → Kind → Note → Known
known_of_name A k n = if A.effects.inside_with then unknown else if is_global_undefined A k n then exactly Undefined else known_by_number A.names.constant n.id

-- ---- expressions

-- of what lies at a place of a row, given what is known of the row
abbrev pub known_at : ℕ → List Known → Known
known_at i ks = get_or ks i unknown

abbrev pub known_of_literal : Kind → Known
known_of_literal (kind.Literal v) = exactly (literal_constant v)
known_of_literal k = unknown

-- of a node of a form, given what is known of what lies below it. Objects are true (7.1.2).
abbrev pub known_by : Answers → Form → Kind → Note → (below : Forest) → List Known → Known
known_by A form.Literal k n a ks = known_of_literal k
known_by A form.Object k n a ks = only_truth true
known_by A form.New k n a ks = only_truth true
known_by A form.Template k n a ks = unknown
known_by A form.Name k n a ks = known_of_name A k n
known_by A form.First k n a ks = known_at 0 ks
known_by A form.Last k n a ks = last unknown ks
known_by A form.Right k n a ks = unknown
known_by A form.Conditional k n a ks = conditional_known (known_at 0 ks) (known_at 1 ks) (known_at 2 ks)
known_by A (form.Logical o) k n a ks = logical_known o (known_at 0 ks) (known_at 1 ks)
known_by A (form.Unary o) k n a ks = unary_known o (type_at 0 (types A a)) (known_at 0 ks)
known_by A (form.Binary o) k n a ks = binary_known o (text_of (inner_at 0 a)) (text_of (inner_at 1 a)) (known_at 0 ks) (known_at 1 ks)
known_by A form.Other k n a ks = unknown

abbrev pub known_from : Answers → Kind → Note → (below : Forest) → List Known → Known
known_from A k n a ks = known_by A (form_of k) k n a ks

-- of each node of a row
abbrev pub knowns : Answers → Forest → List Known
knowns A t = of_each (known_from A) unknown t

-- of what lies at a place of a row
abbrev pub part_known : Answers → ℕ → Forest → Known
part_known A i t = known_at i (knowns A t)

-- of the first node of a row
abbrev pub known_of : Answers → Forest → Known
known_of A t = of_first (known_from A) unknown t

abbrev pub value_of : Answers → Forest → Option ConstantValue
value_of A t = value (known_of A t)

abbrev pub truth_of : Answers → Forest → Option Bool
truth_of A t = truth (known_of A t)

-- of two operands and the operator between them
abbrev pub value_of_binary : Answers → BinaryOperator → (left right : Forest) → Option ConstantValue
value_of_binary A o l r = value (binary_known o (text_of (inner_at 0 l)) (text_of (inner_at 0 r)) (known_of A l) (known_of A r))
