-- What operators give is what is told of it.
use Rattle.std.proofs.Common.{◌≡◌, ◌∙◌, zero, suc, ℤ, pos, negsuc, [], ◌∷◌, Bool, true, false, not, ◌&&◌, ◌||◌, Option, Some, None, if◌then◌else◌, refl, sym, ap, subst, true≢false}
use Rattle.std.specs.Prelude.{neg_ℤ, unsigned_abs, int_div, int_rem, nat_le}
use Rattle.js_syntax.specs.declared.operator.UnaryOperator.{UnaryOperator}
use Rattle.js_syntax.specs.declared.operator.UnaryOperator.TheVariants as unary
use Rattle.js_effects.specs.declared.value.ValueType.{ValueType}
use Rattle.js_effects.specs.declared.value.ValueType.TheVariants as type
use Rattle.js_effects.specs.declared.value.ConstantValue.{ConstantValue}
use Rattle.js_effects.specs.declared.value.ConstantValue.TheVariants as constant
use Rattle.js_effects.specs.Kinds.{is_primitive, of_primitives, unary_type}
use Rattle.js_effects.specs.Values as known
use Rattle.js_effects.specs.Values.{Known, exactly, only_truth, unknown, truth, constant_truth, tested, negated, same_known, on_known_numbers, on_values, binary_known, unary_known}
use Rattle.js_meaning.specs.Value.{Value, plain, boolean, number, text, undef}
use Rattle.js_meaning.specs.State.{M, choose, give}
use Rattle.js_meaning.specs.State as state
use Rattle.js_meaning.specs.Operator as operator
use Rattle.js_meaning.specs.Operator.{is_other, truthy, compare, known_binary, binary_of, unary_of}
use Rattle.js_values.specs.Gives.{Gives}
use Rattle.js_values.specs.Told.{as_value, HasType, Is, IsTold}
use Rattle.js_values.proofs.Gives.{ends_unknown, gives_give, ends_choose, gives_map}

-- ---- truth

same_zero : (z : ℤ) → known.is_zero z ≡ operator.is_zero z
same_zero (pos zero) = refl
same_zero (pos (suc n)) = refl
same_zero (negsuc n) = refl

pub constant_is : (c : ConstantValue) → truthy (as_value c) ≡ constant_truth c
constant_is (constant.Number z) = ap not (sym (same_zero z))
constant_is (constant.Text []) = refl
constant_is (constant.Text (c ∷ cs)) = refl
constant_is (constant.Boolean b) = refl
constant_is constant.Null = refl
constant_is constant.Undefined = refl

same_some : {A : Type 0} {x y : A} → Some x ≡ Some y → x ≡ y
same_some e = cc

pub truth_is : (k : Known) (v : Value) (b : Bool) → Is k v → truth k ≡ Some b → truthy v ≡ b
truth_is (exactly c) v b h e = ap truthy h ∙ constant_is c ∙ same_some e
truth_is (only_truth d) v b h e = h ∙ same_some e
truth_is unknown v b h e = absurd (cc e)

-- ---- what is less is told too

pub is_if : (b : Bool) (c : ConstantValue) (v : Value) → v ≡ as_value c → Is (if b then exactly c else unknown) v
is_if true c v e = e
is_if false c v e = tt

is_unless : (b : Bool) (k : Known) (v : Value) → Is k v → Is (if b then unknown else k) v
is_unless true k v h = tt
is_unless false k v h = h

pub of_type : (t : ValueType) (k : Known) (v : Value) → IsTold t k v → IsTold t unknown v
of_type t k v h = record { type = h.type; known = tt }

-- ---- numbers

pub whole_told : (z : ℤ) → Gives (IsTold type.Number (known.whole z)) (operator.whole z)
whole_told z =
    ends_choose (nat_le (unsigned_abs z) operator.largest)
    (λ e. gives_give (plain (number z)) (record { type = refl; known = is_if (nat_le (unsigned_abs z) known.largest) (constant.Number z) (plain (number z)) refl }))
    (λ e. ends_unknown)

unless_told : (b d : Bool) (t : ValueType) (k : Known) (m : M) → Gives (IsTold t k) m → Gives (IsTold t (if b then unknown else k)) (choose d state.unknown m)
unless_told b d t k m h = ends_choose d (λ e. ends_unknown) (λ e. gives_map h (λ v g. record { type = g.type; known = is_unless b k v g.known }))

pub signed_told : (b d : Bool) (z : ℤ) → Gives (IsTold type.Number (known.signed b z)) (operator.signed d z)
signed_told b d z = unless_told (known.is_zero z && b) (operator.is_zero z && d) type.Number (known.whole z) (operator.whole z) (whole_told z)

pub divided_told : (a b : ℤ) → Gives (IsTold type.Number (known.divided a b)) (operator.divided a b)
divided_told a b =
    unless_told (known.is_zero b || not (known.is_zero (int_rem a b))) (operator.is_zero b || not (operator.is_zero (int_rem a b))) type.Number (known.signed (known.is_negative b) (int_div a b)) (operator.signed (operator.is_negative b) (int_div a b))
    (signed_told (known.is_negative b) (operator.is_negative b) (int_div a b))

pub remainder_told : (a b : ℤ) → Gives (IsTold type.Number (known.remainder a b)) (operator.remainder a b)
remainder_told a b =
    unless_told (known.is_zero b) (operator.is_zero b) type.Number (known.signed (known.is_negative a) (int_rem a b)) (operator.signed (operator.is_negative a) (int_rem a b))
    (signed_told (known.is_negative a) (operator.is_negative a) (int_rem a b))

-- a number where operands are primitive, and else whatever it is
pub if_primitive : (b : Bool) (k : Known) (v : Value) → IsTold type.Number k v → IsTold (of_primitives b type.Number) k v
if_primitive true k v h = h
if_primitive false k v h = record { type = tt; known = h.known }

-- ---- operators on one value

minus_is : (k : Known) (a : ℤ) → Is k (plain (number a)) → Gives (IsTold type.Number (known.minus_known k)) (operator.signed true (neg_ℤ a))
minus_is (exactly (constant.Number z)) a h = let same : a ≡ z = cc in subst (λ i. Gives (IsTold type.Number (known.signed true (neg_ℤ i))) (operator.signed true (neg_ℤ a))) same (signed_told true true (neg_ℤ a))
minus_is (exactly (constant.Text s)) a h = gives_map (signed_told true true (neg_ℤ a)) (of_type type.Number _)
minus_is (exactly (constant.Boolean b)) a h = gives_map (signed_told true true (neg_ℤ a)) (of_type type.Number _)
minus_is (exactly constant.Null) a h = gives_map (signed_told true true (neg_ℤ a)) (of_type type.Number _)
minus_is (exactly constant.Undefined) a h = gives_map (signed_told true true (neg_ℤ a)) (of_type type.Number _)
minus_is (only_truth b) a h = gives_map (signed_told true true (neg_ℤ a)) (of_type type.Number _)
minus_is unknown a h = gives_map (signed_told true true (neg_ℤ a)) (of_type type.Number _)

plus_is : (k : Known) (a : ℤ) → Is k (plain (number a)) → Gives (IsTold type.Number (known.plus_known k)) (operator.whole a)
plus_is (exactly (constant.Number z)) a h = let same : a ≡ z = cc in subst (λ i. Gives (IsTold type.Number (known.whole i)) (operator.whole a)) same (whole_told a)
plus_is (exactly (constant.Text s)) a h = gives_map (whole_told a) (of_type type.Number _)
plus_is (exactly (constant.Boolean b)) a h = gives_map (whole_told a) (of_type type.Number _)
plus_is (exactly constant.Null) a h = gives_map (whole_told a) (of_type type.Number _)
plus_is (exactly constant.Undefined) a h = gives_map (whole_told a) (of_type type.Number _)
plus_is (only_truth b) a h = gives_map (whole_told a) (of_type type.Number _)
plus_is unknown a h = gives_map (whole_told a) (of_type type.Number _)

on_number_told : (b : Bool) (op : ℤ → M) (k r : Known) (v : Value) → ((a : ℤ) → v ≡ plain (number a) → Gives (IsTold type.Number r) (op a)) → Gives (IsTold (of_primitives b type.Number) r) (operator.on_number op v)
on_number_told b op k r (plain (number a)) h = gives_map (h a refl) (if_primitive b r)
on_number_told b op k r v h = ends_unknown

not_told : (k : Known) (v : Value) (o : Option Bool) → truth k ≡ o → Is k v → Is (tested (negated o)) (plain (boolean (not (truthy v))))
not_told k v (Some b) e h = ap (λ d. plain (boolean (not d))) (truth_is k v b h e)
not_told k v None e h = tt

type_told : (t : ValueType) (v : Value) → HasType t v → Is (known.typeof_known t) (plain (text (operator.type_name v)))
type_told type.Undefined v h = ap (λ u. plain (text (operator.type_name u))) h
type_told type.Null v h = tt
type_told type.Boolean (plain (boolean b)) h = refl
type_told type.Boolean v h = absurd (true≢false (sym h))
type_told type.Number (plain (number z)) h = refl
type_told type.Number v h = absurd (true≢false (sym h))
type_told type.String (plain (text s)) h = refl
type_told type.String v h = absurd (true≢false (sym h))
type_told type.Object v h = tt
type_told type.Undetermined v h = tt

pub unary_told : (o : UnaryOperator) (t : ValueType) (k : Known) (v : Value) → IsTold t k v → Gives (IsTold (unary_type o t) (unary_known o t k)) (unary_of o v)
unary_told unary.LogicalNot t k v h = gives_give _ (record { type = refl; known = not_told k v (truth k) refl h.known })
unary_told unary.Void t k v h = gives_give undef (record { type = refl; known = refl })
unary_told unary.Typeof t k v h = gives_give _ (record { type = refl; known = type_told t v h.type })
unary_told unary.UnaryNegation t k v h = on_number_told (is_primitive t) _ k (known.minus_known k) v (λ a e. minus_is k a (subst (Is k) e h.known))
unary_told unary.UnaryPlus t k v h = on_number_told (is_primitive t) _ k (known.plus_known k) v (λ a e. plus_is k a (subst (Is k) e h.known))
unary_told unary.BitwiseNot t k v h = ends_unknown
unary_told unary.Delete t k v h = ends_unknown
