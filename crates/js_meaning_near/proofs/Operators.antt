-- Operators give the same on related values.
use Rattle.std.proofs.Common.{◌≡◌, ℕ, Option, Some, refl, ap, subst}
use Rattle.std.specs.Prelude.{ℤ, pos, ◌+ℤ◌, ◌-ℤ◌, ◌*ℤ◌, neg_ℤ, int_lt, int_le, int_div, int_rem, Bool, true, not, ◌&&◌, ◌||◌}
use Rattle.js_syntax.specs.declared.operator.UnaryOperator.{UnaryOperator}
use Rattle.js_syntax.specs.declared.operator.UnaryOperator.TheVariants as unary
use Rattle.js_syntax.specs.declared.operator.UpdateOperator.{UpdateOperator}
use Rattle.js_syntax.specs.declared.operator.UpdateOperator.TheVariants as update
use Rattle.js_syntax.specs.declared.operator.BinaryOperator.{BinaryOperator}
use Rattle.js_syntax.specs.declared.operator.BinaryOperator.TheVariants as binary
use Rattle.js_syntax.specs.declared.operator.LogicalOperator.{LogicalOperator}
use Rattle.js_syntax.specs.declared.operator.LogicalOperator.TheVariants as logical
use Rattle.js_meaning.specs.Value.{Text, Plain, undefined, null, boolean, number, text, host, other, Value, plain}
use Rattle.js_meaning.specs.State.{M, give}
use Rattle.js_meaning.specs.Operator.{is_object, is_boolean, is_nullish, is_other, is_negative, truthy, type_name, whole, signed, on_numbers, on_number, plain_text, joined, plus_plain, plus, strictly_equal, compare, same_type, loosely, answer_is, answer_not, known_binary, binary_of, unary_of, updated, goes_right}
use Rattle.js_meaning_near.proofs.Worlds.{World, Links}
use Rattle.js_meaning_near.proofs.Relations.{Same, same_plain, same_closure, same_object, same_array, same_error, Follows, Acts, same_later}
use Rattle.js_meaning_near.proofs.Acts.{unknown_acts, choose_acts, give_acts}
use Rattle.js_meaning_near.proofs.Showing.{identity_same}

-- what is asked of a value

pub truthy_same : {w : World} {v u : Value} → Same w v u → truthy v ≡ truthy u
truthy_same same_plain = refl
truthy_same (same_closure l d r) = refl
truthy_same (same_object l c) = refl
truthy_same (same_array l c) = refl
truthy_same (same_error l) = refl

pub object_same : {w : World} {v u : Value} → Same w v u → is_object v ≡ is_object u
object_same same_plain = refl
object_same (same_closure l d r) = refl
object_same (same_object l c) = refl
object_same (same_array l c) = refl
object_same (same_error l) = refl

pub boolean_same : {w : World} {v u : Value} → Same w v u → is_boolean v ≡ is_boolean u
boolean_same same_plain = refl
boolean_same (same_closure l d r) = refl
boolean_same (same_object l c) = refl
boolean_same (same_array l c) = refl
boolean_same (same_error l) = refl

pub nullish_same : {w : World} {v u : Value} → Same w v u → is_nullish v ≡ is_nullish u
nullish_same same_plain = refl
nullish_same (same_closure l d r) = refl
nullish_same (same_object l c) = refl
nullish_same (same_array l c) = refl
nullish_same (same_error l) = refl

pub other_same : {w : World} {v u : Value} → Same w v u → is_other v ≡ is_other u
other_same same_plain = refl
other_same (same_closure l d r) = refl
other_same (same_object l c) = refl
other_same (same_array l c) = refl
other_same (same_error l) = refl

type_name_same : {w : World} {v u : Value} → Same w v u → type_name v ≡ type_name u
type_name_same same_plain = refl
type_name_same (same_closure l d r) = refl
type_name_same (same_object l c) = refl
type_name_same (same_array l c) = refl
type_name_same (same_error l) = refl

pub goes_right_same : {w : World} {v u : Value} (o : LogicalOperator) → Same w v u → goes_right o v ≡ goes_right o u
goes_right_same logical.And q = truthy_same q
goes_right_same logical.Or q = ap not (truthy_same q)
goes_right_same logical.Coalesce q = nullish_same q

-- answers

answer_is_acts : {w : World} (b : Bool) → Acts w (answer_is b) (answer_is b)
answer_is_acts b = give_acts same_plain

answer_not_acts : {w : World} (b : Bool) → Acts w (answer_not b) (answer_not b)
answer_not_acts b = give_acts same_plain

-- numbers

whole_acts : {w : World} (z : ℤ) → Acts w (whole z) (whole z)
whole_acts z = choose_acts refl (give_acts same_plain) unknown_acts

signed_acts : {w : World} (minus : Bool) (z : ℤ) → Acts w (signed minus z) (signed minus z)
signed_acts minus z = choose_acts refl unknown_acts (whole_acts z)

numbers_acts : {w : World} {op : ℤ → ℤ → M} {v u x y : Value} → Same w v u → Same w x y → ((a b : ℤ) → Acts w (op a b) (op a b)) → Acts w (on_numbers op v x) (on_numbers op u y)
numbers_acts (same_plain {p = number a}) (same_plain {p = number b}) k = k a b
numbers_acts _ _ k = unknown_acts

pub number_acts : {w : World} {op : ℤ → M} {v u : Value} → Same w v u → ((a : ℤ) → Acts w (op a) (op a)) → Acts w (on_number op v) (on_number op u)
number_acts (same_plain {p = number a}) k = k a
number_acts _ k = unknown_acts

-- `+`

joined_acts : {w : World} (o p : Option Text) → Acts w (joined o p) (joined o p)
joined_acts (Some a) (Some b) = give_acts same_plain
joined_acts _ _ = unknown_acts

plus_plain_acts : {w : World} (p q : Plain) → Acts w (plus_plain p q) (plus_plain p q)
plus_plain_acts (number a) (number b) = whole_acts (a +ℤ b)
plus_plain_acts p q = choose_acts refl (joined_acts (plain_text p) (plain_text q)) unknown_acts

plus_acts : {w : World} {v u x y : Value} → Same w v u → Same w x y → Acts w (plus v x) (plus u y)
plus_acts (same_plain {p = p}) (same_plain {p = q}) = plus_plain_acts p q
plus_acts _ _ = unknown_acts

-- equality

equal_same : {w : World} {m n : ℕ} {v u x y : Value} → Links w m n → Same w v u → Same w x y → strictly_equal v x ≡ strictly_equal u y
equal_same g same_plain same_plain = refl
equal_same g same_plain (same_closure l d r) = refl
equal_same g same_plain (same_object l c) = refl
equal_same g same_plain (same_array l c) = refl
equal_same g same_plain (same_error l) = refl
equal_same g (same_closure l d r) q = identity_same g l q
equal_same g (same_object l c) q = identity_same g l q
equal_same g (same_array l c) q = identity_same g l q
equal_same g (same_error l) q = identity_same g l q

pub compare_acts : {w : World} {v u x y : Value} {f g : Bool → M} → Same w v u → Same w x y → ((b : Bool) → Acts w (f b) (g b)) → Acts w (compare v x f) (compare u y g)
unfolding compare
compare_acts {v = v} {x = x} {f = f} {g = g} a b c = record { act = λ w2 h s z r. subst (λ i. Follows w2 (f (strictly_equal v x) s) (g i z)) (equal_same r.links (same_later h a) (same_later h b)) ((c (strictly_equal v x)).act w2 h s z r) }

or_same : {a b c d : Bool} → a ≡ b → c ≡ d → (a || c) ≡ (b || d)
or_same e f = rw (e, f) refl

and_same : {a b c d : Bool} → a ≡ b → c ≡ d → (a && c) ≡ (b && d)
and_same e f = rw (e, f) refl

plain_type : {w : World} {x y : Value} (p : Plain) → Same w x y → same_type (plain p) x ≡ same_type (plain p) y
plain_type undefined q = refl
plain_type null q = refl
plain_type (host h c) q = object_same q
plain_type (other i c t) q = refl
plain_type (boolean a) same_plain = refl
plain_type (boolean a) (same_closure l d r) = refl
plain_type (boolean a) (same_object l c) = refl
plain_type (boolean a) (same_array l c) = refl
plain_type (boolean a) (same_error l) = refl
plain_type (number a) same_plain = refl
plain_type (number a) (same_closure l d r) = refl
plain_type (number a) (same_object l c) = refl
plain_type (number a) (same_array l c) = refl
plain_type (number a) (same_error l) = refl
plain_type (text a) same_plain = refl
plain_type (text a) (same_closure l d r) = refl
plain_type (text a) (same_object l c) = refl
plain_type (text a) (same_array l c) = refl
plain_type (text a) (same_error l) = refl

same_type_same : {w : World} {v u x y : Value} → Same w v u → Same w x y → same_type v x ≡ same_type u y
same_type_same (same_plain {p = p}) q = plain_type p q
same_type_same (same_closure l d r) q = object_same q
same_type_same (same_object l c) q = object_same q
same_type_same (same_array l c) q = object_same q
same_type_same (same_error l) q = object_same q

at_answer : {w : World} {f : Bool → M} (a b : Bool) → a ≡ b → ((b : Bool) → Acts w (f b) (f b)) → Acts w (f a) (f b)
at_answer {w = w} {f = f} a b e k = subst (λ c. Acts w (f a) (f c)) e (k a)

loosely_acts : {w : World} {v u x y : Value} (f : Bool → M) → Same w v u → Same w x y → ((b : Bool) → Acts w (f b) (f b)) → Acts w (loosely v x f) (loosely u y f)
loosely_acts f p q k = choose_acts (or_same (nullish_same p) (nullish_same q)) (at_answer _ _ (and_same (nullish_same p) (nullish_same q)) k) (choose_acts (same_type_same p q) (compare_acts p q k) unknown_acts)

known_acts : {w : World} {v u x y : Value} (o : BinaryOperator) → Same w v u → Same w x y → Acts w (known_binary o v x) (known_binary o u y)
known_acts binary.Equality p q = loosely_acts answer_is p q answer_is_acts
known_acts binary.Inequality p q = loosely_acts answer_not p q answer_not_acts
known_acts binary.StrictEquality p q = compare_acts p q answer_is_acts
known_acts binary.StrictInequality p q = compare_acts p q answer_not_acts
known_acts binary.LessThan p q = numbers_acts p q (λ a b. answer_is_acts (int_lt a b))
known_acts binary.LessEqualThan p q = numbers_acts p q (λ a b. answer_is_acts (int_le a b))
known_acts binary.GreaterThan p q = numbers_acts p q (λ a b. answer_is_acts (int_lt b a))
known_acts binary.GreaterEqualThan p q = numbers_acts p q (λ a b. answer_is_acts (int_le b a))
known_acts binary.Addition p q = plus_acts p q
known_acts binary.Subtraction p q = numbers_acts p q (λ a b. whole_acts (a -ℤ b))
known_acts binary.Multiplication p q = numbers_acts p q (λ a b. signed_acts (is_negative a || is_negative b) (a *ℤ b))
known_acts binary.Division p q = numbers_acts p q (λ a b. choose_acts refl unknown_acts (signed_acts (is_negative b) (int_div a b)))
known_acts binary.Remainder p q = numbers_acts p q (λ a b. choose_acts refl unknown_acts (signed_acts (is_negative a) (int_rem a b)))
known_acts _ p q = unknown_acts

pub either_other : {w : World} {v u x y : Value} → Same w v u → Same w x y → (is_other v || is_other x) ≡ (is_other u || is_other y)
either_other p q = or_same (other_same p) (other_same q)

pub binary_of_acts : {w : World} {v u x y : Value} (o : BinaryOperator) → Same w v u → Same w x y → Acts w (binary_of o v x) (binary_of o u y)
binary_of_acts o p q = choose_acts (either_other p q) unknown_acts (known_acts o p q)

not_acts : {w : World} (a b : Bool) → a ≡ b → Acts w (answer_not a) (answer_not b)
not_acts a b e = at_answer a b e answer_not_acts

text_acts : {w : World} (a b : Text) → a ≡ b → Acts w (give (plain (text a))) (give (plain (text b)))
text_acts {w = w} a b e = subst (λ c. Acts w (give (plain (text a))) (give (plain (text c)))) e (give_acts same_plain)

pub unary_of_acts : {w : World} {v u : Value} (o : UnaryOperator) → Same w v u → Acts w (unary_of o v) (unary_of o u)
unary_of_acts unary.LogicalNot q = not_acts _ _ (truthy_same q)
unary_of_acts unary.UnaryNegation q = number_acts q (λ a. signed_acts true (neg_ℤ a))
unary_of_acts unary.UnaryPlus q = number_acts q (λ a. whole_acts a)
unary_of_acts unary.Typeof q = text_acts _ _ (type_name_same q)
unary_of_acts unary.Void q = give_acts same_plain
unary_of_acts _ q = unknown_acts

pub updated_acts : {w : World} (o : UpdateOperator) (a : ℤ) → Acts w (updated o a) (updated o a)
updated_acts update.Increment a = whole_acts (a +ℤ pos 1)
updated_acts update.Decrement a = whole_acts (a -ℤ pos 1)
