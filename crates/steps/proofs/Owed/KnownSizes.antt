-- Numbers that are known are within 2^53 - 1 in magnitude, and so are those that an operation becomes.
use Rattle.std.proofs.Common.{◌≡◌, ℕ, suc, Option, Some, None, pos, negsuc, List, Bool, true, false, not, ◌&&◌, ◌||◌, if◌then◌else◌, arith, refl, subst}
use Rattle.std.specs.Prelude.{ℤ, ◌+ℤ◌, ◌-ℤ◌, ◌*ℤ◌, ◌^◌, neg_ℤ, unsigned_abs, int_div, int_rem, nat_le, nat_lt}
use Rattle.std.proofs.lemmas.Bool.{leb-true, lt-ltb}
use Rattle.js_syntax.specs.declared.value.LiteralValue.{LiteralValue}
use Rattle.js_syntax.specs.declared.value.LiteralValue.TheVariants as value
use Rattle.js_syntax.specs.declared.operator.UnaryOperator.{UnaryOperator}
use Rattle.js_syntax.specs.declared.operator.UnaryOperator.TheVariants as unary
use Rattle.js_syntax.specs.declared.operator.BinaryOperator.{BinaryOperator}
use Rattle.js_syntax.specs.declared.operator.BinaryOperator.TheVariants as binary
use Rattle.js_effects.specs.declared.value.ConstantValue.TheVariants as constant
use Rattle.js_effects.specs.declared.value.ValueType.{ValueType}
use Rattle.js_effects.specs.declared.value.ValueType.TheVariants as type
use Rattle.js_effects.specs.Values as known
use Rattle.js_effects.specs.Values.{Known, exactly, unknown, truth, value, largest, tested, negated, joined, is_exact, is_addition, on_numbers, on_known_numbers, on_values, binary_known, typeof_known, minus_known, plus_known, unary_known}
use Rattle.scope_laws.proofs.Bindings.{same_value}
use Rattle.steps.specs.Allowed.KnownOperation.{as_literal, as_negative}

-- a literal that is no negative number, and no larger one
abbrev pub IsSmall : LiteralValue → Type 0
IsSmall (value.Number (pos n)) = nat_lt n (2 ^ 53) ≡ true
IsSmall (value.Number (negsuc n)) = ⊥
IsSmall v = Unit {0}

abbrev IsWithin : Known → Type 0
IsWithin (exactly (constant.Number z)) = nat_le (unsigned_abs z) largest ≡ true
IsWithin k = Unit {0}

-- ---- numbers

if_within : (z : ℤ) (b : Bool) → nat_le (unsigned_abs z) largest ≡ b → IsWithin (if b then exactly (constant.Number z) else unknown)
if_within z true e = e
if_within z false e = tt

whole_within : (z : ℤ) → IsWithin (known.whole z)
whole_within z = if_within z (nat_le (unsigned_abs z) largest) refl

unless : (b : Bool) (k : Known) → IsWithin k → IsWithin (if b then unknown else k)
unless true k h = tt
unless false k h = h

signed_within : (minus : Bool) (z : ℤ) → IsWithin (known.signed minus z)
signed_within minus z = unless (known.is_zero z && minus) (known.whole z) (whole_within z)

divided_within : (a b : ℤ) → IsWithin (known.divided a b)
divided_within a b = unless (known.is_zero b || not (known.is_zero (int_rem a b))) (known.signed (known.is_negative b) (int_div a b)) (signed_within (known.is_negative b) (int_div a b))

remainder_within : (a b : ℤ) → IsWithin (known.remainder a b)
remainder_within a b = unless (known.is_zero b) (known.signed (known.is_negative a) (int_rem a b)) (signed_within (known.is_negative a) (int_rem a b))

numbers_within : (o : BinaryOperator) (a b : ℤ) → IsWithin (on_numbers o a b)
numbers_within binary.Addition a b = whole_within (a +ℤ b)
numbers_within binary.Subtraction a b = whole_within (a -ℤ b)
numbers_within binary.Multiplication a b = signed_within (known.is_negative a || known.is_negative b) (a *ℤ b)
numbers_within binary.Division a b = divided_within a b
numbers_within binary.Remainder a b = remainder_within a b
numbers_within o a b = tt

-- ---- operators

tested_within : (o : Option Bool) → IsWithin (tested o)
tested_within (Some b) = tt
tested_within None = tt

type_within : (t : ValueType) → IsWithin (typeof_known t)
type_within type.Undefined = tt
type_within type.Number = tt
type_within type.Boolean = tt
type_within type.String = tt
type_within t = tt

minus_within : (k : Known) → IsWithin (minus_known k)
minus_within (exactly (constant.Number z)) = signed_within true (neg_ℤ z)
minus_within k = tt

plus_within : (k : Known) → IsWithin (plus_known k)
plus_within (exactly (constant.Number z)) = whole_within z
plus_within k = tt

unary_within : (o : UnaryOperator) (t : ValueType) (k : Known) → IsWithin (unary_known o t k)
unary_within unary.LogicalNot t k = tested_within (negated (truth k))
unary_within unary.Typeof t k = type_within t
unary_within unary.UnaryNegation t k = minus_within k
unary_within unary.UnaryPlus t k = plus_within k
unary_within o t k = tt

known_numbers_within : (o : BinaryOperator) (a b : Known) → IsWithin (on_known_numbers o a b)
known_numbers_within o (exactly (constant.Number a)) (exactly (constant.Number b)) = numbers_within o a b
known_numbers_within o a b = tt

values_within : (o : BinaryOperator) (a b : Known) → IsWithin (on_values o a b)
values_within binary.StrictEquality a b = tested_within (known.strictly_equal a b)
values_within binary.StrictInequality a b = tested_within (negated (known.strictly_equal a b))
values_within binary.Equality a b = tested_within (known.loosely_equal a b)
values_within binary.Inequality a b = tested_within (negated (known.loosely_equal a b))
values_within o a b = known_numbers_within o a b

joined_within : (s t : Option (List ℕ)) → IsWithin (joined s t)
joined_within (Some s) (Some t) = tt
joined_within s t = tt

either : (c : Bool) (k l : Known) → IsWithin k → IsWithin l → IsWithin (if c then k else l)
either true k l h g = h
either false k l h g = g

binary_within : (o : BinaryOperator) (s t : Option (List ℕ)) (a b : Known) → IsWithin (binary_known o s t a b)
binary_within o s t a b = either (is_addition o && is_exact (joined s t)) (joined s t) (on_values o a b) (joined_within s t) (values_within o a b)

-- ---- literals of them

below_bound : (n : ℕ) → nat_le n largest ≡ true → nat_lt n (2 ^ 53) ≡ true
below_bound n h =
    let most = leb-true n 9007199254740991 h in
    lt-ltb n 9007199254740992 (Prim.omega (arith, most))

literal_small : (k : Known) (w : LiteralValue) → IsWithin k → as_literal (value k) ≡ Some w → IsSmall w
literal_small (exactly (constant.Number (pos i))) w h is = subst IsSmall (same_value is) (below_bound i h)
literal_small (exactly (constant.Text s)) w h is = subst IsSmall (same_value is) tt
literal_small (exactly (constant.Boolean b)) w h is = subst IsSmall (same_value is) tt
literal_small (exactly constant.Null) w h is = subst IsSmall (same_value is) tt
literal_small k w h is = absurd cc

pub unary_small : (o : UnaryOperator) (t : ValueType) (k : Known) (w : LiteralValue) → as_literal (value (unary_known o t k)) ≡ Some w → IsSmall w
unary_small o t k w is = literal_small (unary_known o t k) w (unary_within o t k) is

pub binary_small : (o : BinaryOperator) (s t : Option (List ℕ)) (a b : Known) (w : LiteralValue) → as_literal (value (binary_known o s t a b)) ≡ Some w → IsSmall w
binary_small o s t a b w is = literal_small (binary_known o s t a b) w (binary_within o s t a b) is

-- and literals that stand for negative numbers
negative_small : (k : Known) (n : ℕ) → IsWithin k → as_negative (value k) ≡ Some n → nat_le (suc n) largest ≡ true
negative_small (exactly (constant.Number (negsuc m))) n h is = subst (λ n. nat_le (suc n) largest ≡ true) (same_value is) h
negative_small k n h is = absurd cc

pub below_largest : (n : ℕ) → nat_le (suc n) largest ≡ true → IsSmall (value.Number (pos (suc n)))
below_largest n h = below_bound (suc n) h

pub unary_negative_small : (o : UnaryOperator) (t : ValueType) (k : Known) (n : ℕ) → as_negative (value (unary_known o t k)) ≡ Some n → nat_le (suc n) largest ≡ true
unary_negative_small o t k n is = negative_small (unary_known o t k) n (unary_within o t k) is

pub binary_negative_small : (o : BinaryOperator) (s t : Option (List ℕ)) (a b : Known) (n : ℕ) → as_negative (value (binary_known o s t a b)) ≡ Some n → nat_le (suc n) largest ≡ true
binary_negative_small o s t a b n is = negative_small (binary_known o s t a b) n (binary_within o s t a b) is
