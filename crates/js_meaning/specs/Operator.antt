-- Operators on values (ECMA-262 13.5 to 13.12). Numbers are whole: what would leave 2^53 - 1, or give a fraction, a
-- negative zero, NaN or an infinity, is unknown; so is arithmetic on other than numbers. Of another primitive value of
-- the host `typeof` and tests alone are known.
use Rattle.std.specs.Prelude.{ℕ, zero, suc, ℤ, pos, negsuc, ◌+ℤ◌, ◌-ℤ◌, ◌*ℤ◌, neg_ℤ, unsigned_abs, int_lt, int_le, int_div, int_rem, nat_eq, nat_le, Bool, true, false, not, ◌&&◌, ◌||◌, [], ◌∷◌, ◌++◌, Option, Some, None, codes, decimal}
use Rattle.std.specs.Str.{bytes_eq}
use Rattle.js_meaning.specs.Value.{Text, PrimitiveKind, a_number, a_bigint, a_symbol, a_string, Plain, undefined, null, boolean, number, text, host, other, Value, plain, closure, object, array, error, undef}
use Rattle.js_meaning.specs.State.{M, unknown, give, choose}
use Rattle.js_meaning.specs.Show.{has_identity}
use Rattle.js_syntax.specs.declared.operator.UnaryOperator.{UnaryOperator}
use Rattle.js_syntax.specs.declared.operator.UnaryOperator.TheVariants as unary
use Rattle.js_syntax.specs.declared.operator.UpdateOperator.{UpdateOperator}
use Rattle.js_syntax.specs.declared.operator.UpdateOperator.TheVariants as update
use Rattle.js_syntax.specs.declared.operator.BinaryOperator.{BinaryOperator}
use Rattle.js_syntax.specs.declared.operator.BinaryOperator.TheVariants as binary
use Rattle.js_syntax.specs.declared.operator.LogicalOperator.{LogicalOperator}
use Rattle.js_syntax.specs.declared.operator.LogicalOperator.TheVariants as logical

-- kinds of values

abbrev pub is_object : Value → Bool
is_object (plain (host h callable)) = true
is_object (plain p) = false
is_object _ = true

abbrev pub is_boolean : Value → Bool
is_boolean (plain (boolean b)) = true
is_boolean _ = false

abbrev pub is_nullish : Value → Bool
is_nullish (plain undefined) = true
is_nullish (plain null) = true
is_nullish _ = false

abbrev pub is_other : Value → Bool
is_other (plain (other i kind t)) = true
is_other _ = false

abbrev pub is_zero : ℤ → Bool
is_zero (pos zero) = true
is_zero _ = false

abbrev pub is_negative : ℤ → Bool
is_negative (pos n) = false
is_negative (negsuc n) = true

abbrev pub is_empty : Text → Bool
is_empty [] = true
is_empty (c ∷ cs) = false

-- ToBoolean (7.1.2)
abbrev pub truthy : Value → Bool
truthy (plain undefined) = false
truthy (plain null) = false
truthy (plain (boolean b)) = b
truthy (plain (number z)) = not (is_zero z)
truthy (plain (text s)) = not (is_empty s)
truthy (plain (other i kind t)) = t
truthy _ = true

-- 13.5.3
abbrev pub kind_name : PrimitiveKind → Text
kind_name a_number = codes "number"
kind_name a_bigint = codes "bigint"
kind_name a_symbol = codes "symbol"
kind_name a_string = codes "string"

abbrev pub type_name : Value → Text
type_name (plain undefined) = codes "undefined"
type_name (plain null) = codes "object"
type_name (plain (boolean b)) = codes "boolean"
type_name (plain (number z)) = codes "number"
type_name (plain (text s)) = codes "string"
type_name (plain (host h true)) = codes "function"
type_name (plain (host h false)) = codes "object"
type_name (plain (other i kind t)) = kind_name kind
type_name (closure i f a env) = codes "function"
type_name _ = codes "object"

-- numbers

abbrev pub largest : ℕ
largest = 9007199254740991

abbrev pub whole : ℤ → M
whole z = choose (nat_le (unsigned_abs z) largest) (give (plain (number z))) unknown

-- a zero whose sign is negative where `minus` is true
abbrev pub signed : Bool → ℤ → M
signed minus z = choose (is_zero z && minus) unknown (whole z)

abbrev pub times : ℤ → ℤ → M
times a b = signed (is_negative a || is_negative b) (a *ℤ b)

abbrev pub divided : ℤ → ℤ → M
divided a b = choose (is_zero b || not (is_zero (int_rem a b))) unknown (signed (is_negative b) (int_div a b))

-- the sign is that of the dividend (6.1.6.1.6)
abbrev pub remainder : ℤ → ℤ → M
remainder a b = choose (is_zero b) unknown (signed (is_negative a) (int_rem a b))

abbrev pub on_numbers : (ℤ → ℤ → M) → Value → Value → M
on_numbers op (plain (number a)) (plain (number b)) = op a b
on_numbers op _ _ = unknown

abbrev pub on_number : (ℤ → M) → Value → M
on_number op (plain (number a)) = op a
on_number op _ = unknown

-- texts

abbrev pub integer_text : ℤ → Text
integer_text (pos n) = decimal n
integer_text (negsuc n) = 45 ∷ decimal (suc n)

abbrev pub boolean_text : Bool → Text
boolean_text true = codes "true"
boolean_text false = codes "false"

-- ToString of a primitive value (7.1.17)
abbrev pub plain_text : Plain → Option Text
plain_text undefined = Some (codes "undefined")
plain_text null = Some (codes "null")
plain_text (boolean b) = Some (boolean_text b)
plain_text (number z) = Some (integer_text z)
plain_text (text s) = Some s
plain_text (host h callable) = None
plain_text (other i kind t) = None

abbrev pub is_text : Plain → Bool
is_text (text s) = true
is_text _ = false

abbrev pub joined : Option Text → Option Text → M
joined (Some a) (Some b) = give (plain (text (a ++ b)))
joined _ _ = unknown

-- `+`: two numbers, or a text and a primitive value (13.15.3)
abbrev pub plus_plain : Plain → Plain → M
plus_plain (number a) (number b) = whole (a +ℤ b)
plus_plain p q = choose (is_text p || is_text q) (joined (plain_text p) (plain_text q)) unknown

abbrev pub plus : Value → Value → M
plus (plain p) (plain q) = plus_plain p q
plus _ _ = unknown

-- equality

abbrev pub bool_eq : Bool → Bool → Bool
bool_eq true b = b
bool_eq false b = not b

abbrev pub int_eq : ℤ → ℤ → Bool
int_eq (pos a) (pos b) = nat_eq a b
int_eq (negsuc a) (negsuc b) = nat_eq a b
int_eq _ _ = false

abbrev pub plain_eq : Plain → Plain → Bool
plain_eq undefined undefined = true
plain_eq null null = true
plain_eq (boolean a) (boolean b) = bool_eq a b
plain_eq (number a) (number b) = int_eq a b
plain_eq (text a) (text b) = bytes_eq a b
plain_eq (host a callable) (host b also) = nat_eq a b && bool_eq callable also
plain_eq _ _ = false

-- IsStrictlyEqual (7.2.15)
abbrev pub strictly_equal : Value → Value → Bool
strictly_equal (plain p) (plain q) = plain_eq p q
strictly_equal (plain p) _ = false
strictly_equal (closure i f a env) v = has_identity v i
strictly_equal (object i c) v = has_identity v i
strictly_equal (array i c) v = has_identity v i
strictly_equal (error i e) v = has_identity v i

-- the comparison as an act, since identities are numbers of the state
unfoldable pub compare : Value → Value → (Bool → M) → M
compare v u k s = k (strictly_equal v u) s

-- values of one type, for `==`
abbrev pub same_type : Value → Value → Bool
same_type (plain (boolean a)) (plain (boolean b)) = true
same_type (plain (number a)) (plain (number b)) = true
same_type (plain (text a)) (plain (text b)) = true
same_type v u = is_object v && is_object u

-- IsLooselyEqual (7.2.14), without conversions
abbrev pub loosely : Value → Value → (Bool → M) → M
loosely v u k =
    choose (is_nullish v || is_nullish u) (k (is_nullish v && is_nullish u)) (choose (same_type v u) (compare v u k) unknown)

abbrev pub answer_is : Bool → M
answer_is b = give (plain (boolean b))

abbrev pub answer_not : Bool → M
answer_not b = give (plain (boolean (not b)))

-- where no operand is another primitive value of the host
abbrev pub known_binary : BinaryOperator → Value → Value → M
known_binary binary.Equality v u = loosely v u answer_is
known_binary binary.Inequality v u = loosely v u answer_not
known_binary binary.StrictEquality v u = compare v u answer_is
known_binary binary.StrictInequality v u = compare v u answer_not
known_binary binary.LessThan v u = on_numbers (λ a b. answer_is (int_lt a b)) v u
known_binary binary.LessEqualThan v u = on_numbers (λ a b. answer_is (int_le a b)) v u
known_binary binary.GreaterThan v u = on_numbers (λ a b. answer_is (int_lt b a)) v u
known_binary binary.GreaterEqualThan v u = on_numbers (λ a b. answer_is (int_le b a)) v u
known_binary binary.Addition v u = plus v u
known_binary binary.Subtraction v u = on_numbers (λ a b. whole (a -ℤ b)) v u
known_binary binary.Multiplication v u = on_numbers times v u
known_binary binary.Division v u = on_numbers divided v u
known_binary binary.Remainder v u = on_numbers remainder v u
known_binary _ v u = unknown

-- the binary operators that show nothing to the host; `in` and `instanceof` do
abbrev pub binary_of : BinaryOperator → Value → Value → M
binary_of o v u = choose (is_other v || is_other u) unknown (known_binary o v u)

-- 13.5.2 to 13.5.7; `typeof` asks its operand in its own way
abbrev pub unary_of : UnaryOperator → Value → M
unary_of unary.LogicalNot v = answer_not (truthy v)
unary_of unary.UnaryNegation v = on_number (λ a. signed true (neg_ℤ a)) v
unary_of unary.UnaryPlus v = on_number whole v
unary_of unary.Typeof v = give (plain (text (type_name v)))
unary_of unary.Void v = give undef
unary_of _ v = unknown

-- 13.4
abbrev pub updated : UpdateOperator → ℤ → M
updated update.Increment a = whole (a +ℤ pos 1)
updated update.Decrement a = whole (a -ℤ pos 1)

-- whether the right side is evaluated (13.13)
abbrev pub goes_right : LogicalOperator → Value → Bool
goes_right logical.And v = truthy v
goes_right logical.Or v = not (truthy v)
goes_right logical.Coalesce v = is_nullish v
