-- What operators between two values give is what is told of it.
use Rattle.std.proofs.Common.{◌≡◌, ◌∙◌, ℕ, ℤ, pos, negsuc, List, ◌++◌, Bool, true, false, not, ◌&&◌, ◌||◌, Option, Some, None, refl, sym, ap, ap₂, subst, true≢false}
use Rattle.std.specs.Prelude.{◌+ℤ◌, ◌-ℤ◌, ◌*ℤ◌, int_lt, int_le}
use Rattle.js_syntax.specs.declared.operator.BinaryOperator.{BinaryOperator}
use Rattle.js_syntax.specs.declared.operator.BinaryOperator.TheVariants as binary
use Rattle.js_effects.specs.declared.value.ValueType.{ValueType}
use Rattle.js_effects.specs.declared.value.ValueType.TheVariants as type
use Rattle.js_effects.specs.declared.value.ConstantValue.{ConstantValue}
use Rattle.js_effects.specs.declared.value.ConstantValue.TheVariants as constant
use Rattle.js_effects.specs.Kinds.{is_primitive, of_primitives, sum_type, binary_type}
use Rattle.js_effects.specs.Values as known
use Rattle.js_effects.specs.Values.{Known, exactly, only_truth, unknown, tested, negated, is_exact, same_known, on_known_numbers, on_values, binary_known}
use Rattle.js_meaning.specs.Value.{Value, plain, undefined, null, boolean, number, text, host, other, Plain}
use Rattle.js_meaning.specs.Trace.{Act}
use Rattle.js_meaning.specs.State.{M, choose, give}
use Rattle.js_meaning.specs.State as state
use Rattle.js_meaning.specs.Host.{Enter}
use Rattle.js_meaning.specs.Operator as operator
use Rattle.js_meaning.specs.Operator.{is_boolean, is_other, compare, known_binary, binary_of}
use Rattle.js_meaning.specs.Expression.{ask_host, binary_value}
use Rattle.js_values.specs.Gives.{Gives}
use Rattle.js_values.specs.Told.{as_value, is_number, is_text, HasType, Is, IsTold}
use Rattle.js_values.proofs.Gives.{ends_unknown, gives_give, ends_choose, gives_map}
use Rattle.js_values.proofs.Shows.{ends_show, gives_only}
use Rattle.js_values.proofs.Operators.{of_type, whole_told, signed_told, divided_told, remainder_told, if_primitive}

-- ---- two numbers

-- where both are known, what is known of the two; else nothing
numbers_told : (o : BinaryOperator) (t : ValueType) (j k : Known) (a b : ℤ) (m : M) → Is j (plain (number a)) → Is k (plain (number b)) → Gives (IsTold t (known.on_numbers o a b)) m → Gives (IsTold t (on_known_numbers o j k)) m
numbers_told o t (exactly (constant.Number x)) (exactly (constant.Number y)) a b m h g told =
    let first : a ≡ x = cc in
    let second : b ≡ y = cc in
    subst (λ i. Gives (IsTold t (known.on_numbers o i y)) m) first (subst (λ i. Gives (IsTold t (known.on_numbers o a i)) m) second told)
numbers_told o t j k a b m h g told = gives_map told (of_type t _)

module _ (o : BinaryOperator) (t : ValueType) (j k : Known) (op : ℤ → ℤ → M) where
  on_numbers_told : (v u : Value) → Is j v → Is k u → ((a b : ℤ) → Gives (IsTold t (known.on_numbers o a b)) (op a b)) → Gives (IsTold t (on_known_numbers o j k)) (operator.on_numbers op v u)
  on_numbers_told (plain (number a)) (plain (number b)) h g told = numbers_told o t j k a b (op a b) h g (told a b)
  on_numbers_told v u h g told = ends_unknown

less_told : (b : Bool) → Gives (IsTold type.Boolean (known.truth_value b)) (operator.answer_is b)
less_told b = gives_give _ (record { type = refl; known = refl })

-- ---- equality

same_booleans : (a b : Bool) → known.bool_eq a b ≡ operator.bool_eq a b
same_booleans true b = refl
same_booleans false b = refl

same_numbers : (a b : ℤ) → known.int_eq a b ≡ operator.int_eq a b
same_numbers (pos a) (pos b) = refl
same_numbers (pos a) (negsuc b) = refl
same_numbers (negsuc a) (pos b) = refl
same_numbers (negsuc a) (negsuc b) = refl

same_equal : (c d : ConstantValue) → operator.strictly_equal (as_value c) (as_value d) ≡ same_known (exactly c) (exactly d)
same_equal (constant.Boolean a) (constant.Boolean b) = sym (same_booleans a b)
same_equal (constant.Number a) (constant.Number b) = sym (same_numbers a b)
same_equal (constant.Text a) (constant.Text b) = refl
same_equal constant.Null constant.Null = refl
same_equal constant.Undefined constant.Undefined = refl
same_equal c d = refl

compared : {P : Value → Type 0} (v u : Value) (k : Bool → M) → ((b : Bool) → b ≡ operator.strictly_equal v u → Gives P (k b)) → Gives P (compare v u k)
unfolding compare
compared v u k h = record { at = λ s. (h (operator.strictly_equal v u) refl).at s }

abbrev answered : (Bool → Bool) → Option Bool → Known
answered f (Some b) = known.truth_value (f b)
answered f None = unknown

abbrev answer : (Bool → Bool) → Bool → M
answer f b = give (plain (boolean (f b)))

answer_told : (f : Bool → Bool) (k : Known) (b : Bool) → Is k (plain (boolean (f b))) → Gives (IsTold type.Boolean k) (answer f b)
answer_told f k b h = gives_give _ (record { type = refl; known = h })

strictly_is : (f : Bool → Bool) (j k : Known) (v u : Value) → Is j v → Is k u → (b : Bool) → b ≡ operator.strictly_equal v u → Is (answered f (known.strictly_equal j k)) (plain (boolean (f b)))
strictly_is f (exactly c) (exactly d) v u h g b e = ap (λ x. plain (boolean (f x))) (e ∙ ap₂ operator.strictly_equal h g ∙ same_equal c d)
strictly_is f (exactly c) (only_truth d) v u h g b e = tt
strictly_is f (exactly c) unknown v u h g b e = tt
strictly_is f (only_truth c) k v u h g b e = tt
strictly_is f unknown k v u h g b e = tt

strictly_told : (f : Bool → Bool) (j k : Known) (v u : Value) → Is j v → Is k u → Gives (IsTold type.Boolean (answered f (known.strictly_equal j k))) (compare v u (answer f))
strictly_told f j k v u h g = compared v u (answer f) (λ b e. answer_told f (answered f (known.strictly_equal j k)) b (strictly_is f j k v u h g b e))

loosely_boolean : (f : Bool → Bool) (v u : Value) → Gives (IsTold type.Boolean unknown) (operator.loosely v u (answer f))
loosely_boolean f v u =
    ends_choose (operator.is_nullish v || operator.is_nullish u) (λ e. answer_told f unknown (operator.is_nullish v && operator.is_nullish u) tt)
    (λ e. ends_choose (operator.same_type v u) (λ g. compared v u (answer f) (λ b e. answer_told f unknown b tt)) (λ g. ends_unknown))

loosely_constants : (f : Bool → Bool) (c d : ConstantValue) → Gives (IsTold type.Boolean (answered f (known.loosely_equal (exactly c) (exactly d)))) (operator.loosely (as_value c) (as_value d) (answer f))
unfolding choose
loosely_constants f constant.Null constant.Null = answer_told f (known.truth_value (f true)) true refl
loosely_constants f constant.Null constant.Undefined = answer_told f (known.truth_value (f true)) true refl
loosely_constants f constant.Undefined constant.Null = answer_told f (known.truth_value (f true)) true refl
loosely_constants f constant.Undefined constant.Undefined = answer_told f (known.truth_value (f true)) true refl
loosely_constants f (constant.Boolean a) (constant.Boolean b) = strictly_told f (exactly (constant.Boolean a)) (exactly (constant.Boolean b)) _ _ refl refl
loosely_constants f (constant.Number a) (constant.Number b) = strictly_told f (exactly (constant.Number a)) (exactly (constant.Number b)) _ _ refl refl
loosely_constants f (constant.Text a) (constant.Text b) = strictly_told f (exactly (constant.Text a)) (exactly (constant.Text b)) _ _ refl refl
loosely_constants f c d = loosely_boolean f (as_value c) (as_value d)

loosely_told : (f : Bool → Bool) (j k : Known) (v u : Value) → Is j v → Is k u → Gives (IsTold type.Boolean (answered f (known.loosely_equal j k))) (operator.loosely v u (answer f))
loosely_told f (exactly c) (exactly d) v u h g =
    subst (λ x. Gives (IsTold type.Boolean (answered f (known.loosely_equal (exactly c) (exactly d)))) (operator.loosely x u (answer f))) (sym h)
    (subst (λ x. Gives (IsTold type.Boolean (answered f (known.loosely_equal (exactly c) (exactly d)))) (operator.loosely (as_value c) x (answer f))) (sym g) (loosely_constants f c d))
loosely_told f (exactly constant.Null) (only_truth d) v u h g = loosely_boolean f v u
loosely_told f (exactly constant.Undefined) (only_truth d) v u h g = loosely_boolean f v u
loosely_told f (exactly constant.Null) unknown v u h g = loosely_boolean f v u
loosely_told f (exactly constant.Undefined) unknown v u h g = loosely_boolean f v u
loosely_told f (exactly c) (only_truth d) v u h g = loosely_boolean f v u
loosely_told f (exactly c) unknown v u h g = loosely_boolean f v u
loosely_told f (only_truth c) k v u h g = loosely_boolean f v u
loosely_told f unknown k v u h g = loosely_boolean f v u

as_tested : (o : Option Bool) (v : Value) → Is (answered (λ b. b) o) v → Is (tested o) v
as_tested (Some b) v h = h
as_tested None v h = h

as_negated : (o : Option Bool) (v : Value) → Is (answered not o) v → Is (tested (negated o)) v
as_negated (Some b) v h = h
as_negated None v h = h

if_tested : (o : Option Bool) (m : M) → Gives (IsTold type.Boolean (answered (λ b. b) o)) m → Gives (IsTold type.Boolean (tested o)) m
if_tested o m h = gives_map h (λ v g. record { type = g.type; known = as_tested o v g.known })

if_negated : (o : Option Bool) (m : M) → Gives (IsTold type.Boolean (answered not o)) m → Gives (IsTold type.Boolean (tested (negated o))) m
if_negated o m h = gives_map h (λ v g. record { type = g.type; known = as_negated o v g.known })

-- ---- sums

-- a text where one side is known to be one, and else a number
abbrev Sum : (s t : ValueType) → Value → Type 0
Sum s t w = HasType (of_primitives (is_primitive s && is_primitive t) (sum_type s t)) w

if_text : (b : Bool) (w : Value) → is_text w ≡ true → HasType (of_primitives b type.String) w
if_text true w h = h
if_text false w h = tt

-- by a right side that is a text
right_text : (w : Value) → is_text w ≡ true → (s t : ValueType) (q : Plain) → operator.is_text q ≡ true → HasType t (plain q) → Sum s t w
right_text w is type.Undefined type.String q e h = is
right_text w is type.Null type.String q e h = is
right_text w is type.Boolean type.String q e h = is
right_text w is type.Number type.String q e h = is
right_text w is type.String type.String q e h = is
right_text w is type.Object t q e h = tt
right_text w is type.Undetermined t q e h = tt
right_text w is type.Undefined type.Object q e h = tt
right_text w is type.Null type.Object q e h = tt
right_text w is type.Boolean type.Object q e h = tt
right_text w is type.Number type.Object q e h = tt
right_text w is type.String type.Object q e h = tt
right_text w is type.Undefined type.Undetermined q e h = tt
right_text w is type.Null type.Undetermined q e h = tt
right_text w is type.Boolean type.Undetermined q e h = tt
right_text w is type.Number type.Undetermined q e h = tt
right_text w is type.String type.Undetermined q e h = tt
right_text w is s type.Undefined (text x) e h = absurd (cc h)
right_text w is s type.Null (text x) e h = absurd (cc h)
right_text w is s type.Boolean (text x) e h = absurd (true≢false (sym h))
right_text w is s type.Number (text x) e h = absurd (true≢false (sym h))
right_text w is s t q e h = absurd (true≢false (sym e))

left_text : (w : Value) → is_text w ≡ true → (s t : ValueType) (x : List ℕ) → HasType s (plain (text x)) → Sum s t w
left_text w is type.String t x h = if_text (is_primitive t) w is
left_text w is type.Object t x h = tt
left_text w is type.Undetermined t x h = tt
left_text w is type.Undefined t x h = absurd (cc h)
left_text w is type.Null t x h = absurd (cc h)
left_text w is type.Boolean t x h = absurd (true≢false (sym h))
left_text w is type.Number t x h = absurd (true≢false (sym h))

text_sum : (w : Value) → is_text w ≡ true → (s t : ValueType) (p q : Plain) → (operator.is_text p || operator.is_text q) ≡ true → HasType s (plain p) → HasType t (plain q) → Sum s t w
text_sum w is s t (text x) q e h g = left_text w is s t x h
text_sum w is s t undefined q e h g = right_text w is s t q e g
text_sum w is s t null q e h g = right_text w is s t q e g
text_sum w is s t (boolean b) q e h g = right_text w is s t q e g
text_sum w is s t (number z) q e h g = right_text w is s t q e g
text_sum w is s t (host i callable) q e h g = right_text w is s t q e g
text_sum w is s t (other i kind truth) q e h g = right_text w is s t q e g

-- of two numbers
number_sum : (w : Value) → is_number w ≡ true → (s t : ValueType) (a b : ℤ) → HasType s (plain (number a)) → HasType t (plain (number b)) → Sum s t w
number_sum w is type.String t a b h g = absurd (true≢false (sym h))
number_sum w is type.Undefined t a b h g = absurd (cc h)
number_sum w is type.Null t a b h g = absurd (cc h)
number_sum w is type.Boolean t a b h g = absurd (true≢false (sym h))
number_sum w is type.Object t a b h g = absurd (true≢false (sym h))
number_sum w is type.Undetermined t a b h g = tt
number_sum w is type.Number type.String a b h g = absurd (true≢false (sym g))
number_sum w is type.Number type.Undefined a b h g = absurd (cc g)
number_sum w is type.Number type.Null a b h g = absurd (cc g)
number_sum w is type.Number type.Boolean a b h g = absurd (true≢false (sym g))
number_sum w is type.Number type.Object a b h g = absurd (true≢false (sym g))
number_sum w is type.Number type.Undetermined a b h g = tt
number_sum w is type.Number type.Number a b h g = is

-- of what isn't a number nothing is known by numbers
none_by_left : (o : BinaryOperator) (j k : Known) (v w : Value) → is_number v ≡ false → Is j v → Is (on_known_numbers o j k) w
none_by_left o (exactly (constant.Number x)) (exactly (constant.Number y)) v w e h = absurd (true≢false (sym (ap is_number h) ∙ e))
none_by_left o j k v w e h = tt

none_by_right : (o : BinaryOperator) (j k : Known) (v w : Value) → is_number v ≡ false → Is k v → Is (on_known_numbers o j k) w
none_by_right o (exactly (constant.Number x)) (exactly (constant.Number y)) v w e h = absurd (true≢false (sym (ap is_number h) ∙ e))
none_by_right o j k v w e h = tt

joined_gives : {P : Value → Type 0} (m n : Option (List ℕ)) → ((x : List ℕ) → P (plain (text x))) → Gives P (operator.joined m n)
joined_gives (Some a) (Some b) h = gives_give _ (h (a ++ b))
joined_gives (Some a) None h = ends_unknown
joined_gives None n h = ends_unknown

module _ (s t : ValueType) (j k : Known) where
  abbrev Summed : Value → Type 0
  Summed w = IsTold (of_primitives (is_primitive s && is_primitive t) (sum_type s t)) (on_known_numbers binary.Addition j k) w

  texts_told : (p q : Plain) → HasType s (plain p) → HasType t (plain q) → ((w : Value) → Is (on_known_numbers binary.Addition j k) w)
      → Gives Summed (choose (operator.is_text p || operator.is_text q) (operator.joined (operator.plain_text p) (operator.plain_text q)) state.unknown)
  texts_told p q h g none =
      ends_choose (operator.is_text p || operator.is_text q)
      (λ e. joined_gives (operator.plain_text p) (operator.plain_text q) (λ x. record { type = text_sum (plain (text x)) refl s t p q e h g; known = none (plain (text x)) }))
      (λ e. ends_unknown)

  plain_told : (p q : Plain) → IsTold s j (plain p) → IsTold t k (plain q) → Gives Summed (operator.plus_plain p q)
  plain_told (number a) (number b) h g =
      gives_map (numbers_told binary.Addition type.Number j k a b (operator.whole (a +ℤ b)) h.known g.known (whole_told (a +ℤ b))) (λ w z. record { type = number_sum w z.type s t a b h.type g.type; known = z.known })
  plain_told (number a) undefined h g = texts_told (number a) undefined h.type g.type (λ w. none_by_right binary.Addition j k _ w refl g.known)
  plain_told (number a) null h g = texts_told (number a) null h.type g.type (λ w. none_by_right binary.Addition j k _ w refl g.known)
  plain_told (number a) (boolean b) h g = texts_told (number a) (boolean b) h.type g.type (λ w. none_by_right binary.Addition j k _ w refl g.known)
  plain_told (number a) (text x) h g = texts_told (number a) (text x) h.type g.type (λ w. none_by_right binary.Addition j k _ w refl g.known)
  plain_told (number a) (host i callable) h g = texts_told (number a) (host i callable) h.type g.type (λ w. none_by_right binary.Addition j k _ w refl g.known)
  plain_told (number a) (other i kind truth) h g = texts_told (number a) (other i kind truth) h.type g.type (λ w. none_by_right binary.Addition j k _ w refl g.known)
  plain_told undefined q h g = texts_told undefined q h.type g.type (λ w. none_by_left binary.Addition j k _ w refl h.known)
  plain_told null q h g = texts_told null q h.type g.type (λ w. none_by_left binary.Addition j k _ w refl h.known)
  plain_told (boolean b) q h g = texts_told (boolean b) q h.type g.type (λ w. none_by_left binary.Addition j k _ w refl h.known)
  plain_told (text x) q h g = texts_told (text x) q h.type g.type (λ w. none_by_left binary.Addition j k _ w refl h.known)
  plain_told (host i callable) q h g = texts_told (host i callable) q h.type g.type (λ w. none_by_left binary.Addition j k _ w refl h.known)
  plain_told (other i kind truth) q h g = texts_told (other i kind truth) q h.type g.type (λ w. none_by_left binary.Addition j k _ w refl h.known)

  sum_told : (v u : Value) → IsTold s j v → IsTold t k u → Gives Summed (operator.plus v u)
  sum_told (plain p) (plain q) h g = plain_told p q h g
  sum_told v u h g = ends_unknown

-- what stands as a text there has that value
abbrev pub IsText : Option (List ℕ) → Value → Type 0
IsText o v = (x : List ℕ) → o ≡ Some x → v ≡ plain (text x)

two_texts : (s t : ValueType) (a b : List ℕ) → HasType s (plain (text a)) → HasType t (plain (text b)) → Gives (IsTold (of_primitives (is_primitive s && is_primitive t) (sum_type s t)) (exactly (constant.Text (a ++ b)))) (operator.plus (plain (text a)) (plain (text b)))
unfolding choose
two_texts s t a b h g = gives_give (plain (text (a ++ b))) (record { type = left_text (plain (text (a ++ b))) refl s t a h; known = refl })

plus_told : (s t : ValueType) (x y : Option (List ℕ)) (j k : Known) (v u : Value) → IsTold s j v → IsTold t k u → IsText x v → IsText y u
    → Gives (IsTold (of_primitives (is_primitive s && is_primitive t) (sum_type s t)) (binary_known binary.Addition x y j k)) (operator.plus v u)
plus_told s t (Some a) (Some b) j k v u h g left right =
    subst (λ z. Gives (IsTold (of_primitives (is_primitive s && is_primitive t) (sum_type s t)) (exactly (constant.Text (a ++ b)))) (operator.plus z u)) (sym (left a refl))
    (subst (λ z. Gives (IsTold (of_primitives (is_primitive s && is_primitive t) (sum_type s t)) (exactly (constant.Text (a ++ b)))) (operator.plus (plain (text a)) z)) (sym (right b refl))
    (two_texts s t a b (subst (HasType s) (left a refl) h.type) (subst (HasType t) (right b refl) g.type)))
plus_told s t (Some a) None j k v u h g left right = sum_told s t j k v u h g
plus_told s t None y j k v u h g left right = sum_told s t j k v u h g

-- ---- all of them

asked_told : (E : Enter) (act : _) (t : ValueType) (v u : Value) → Gives (IsTold type.Boolean unknown) (choose (is_other v || is_other u) state.unknown (ask_host E act v u))
asked_told E act t v u =
    ends_choose (is_other v || is_other u) (λ e. ends_unknown) (λ e. ends_show v (λ x. ends_show u (λ y. gives_map (gives_only is_boolean _) (λ w is. record { type = is; known = tt }))))

none_known : (o : BinaryOperator) (j k : Known) → ((a b : ℤ) → known.on_numbers o a b ≡ unknown) → on_known_numbers o j k ≡ unknown
none_known o (exactly (constant.Number a)) (exactly (constant.Number b)) h = h a b
none_known o j k h = refl

module _ (s t : ValueType) (x y : Option (List ℕ)) (j k : Known) (v u : Value) (h : IsTold s j v) (g : IsTold t k u) (left : IsText x v) (right : IsText y u) where
  as_number : (r : Known) (m : M) → Gives (IsTold type.Number r) m → Gives (IsTold (of_primitives (is_primitive s && is_primitive t) type.Number) r) m
  as_number r m told = gives_map told (if_primitive (is_primitive s && is_primitive t) r)

  known_told : (o : BinaryOperator) → Gives (IsTold (binary_type o s t) (binary_known o x y j k)) (known_binary o v u)
  known_told binary.Equality = if_tested (known.loosely_equal j k) _ (loosely_told (λ b. b) j k v u h.known g.known)
  known_told binary.Inequality = if_negated (known.loosely_equal j k) _ (loosely_told not j k v u h.known g.known)
  known_told binary.StrictEquality = if_tested (known.strictly_equal j k) _ (strictly_told (λ b. b) j k v u h.known g.known)
  known_told binary.StrictInequality = if_negated (known.strictly_equal j k) _ (strictly_told not j k v u h.known g.known)
  known_told binary.LessThan = on_numbers_told binary.LessThan type.Boolean j k _ v u h.known g.known (λ a b. less_told (int_lt a b))
  known_told binary.LessEqualThan = on_numbers_told binary.LessEqualThan type.Boolean j k _ v u h.known g.known (λ a b. less_told (int_le a b))
  known_told binary.GreaterThan = on_numbers_told binary.GreaterThan type.Boolean j k _ v u h.known g.known (λ a b. less_told (int_lt b a))
  known_told binary.GreaterEqualThan = on_numbers_told binary.GreaterEqualThan type.Boolean j k _ v u h.known g.known (λ a b. less_told (int_le b a))
  known_told binary.Addition = plus_told s t x y j k v u h g left right
  known_told binary.Subtraction = as_number _ _ (on_numbers_told binary.Subtraction type.Number j k _ v u h.known g.known (λ a b. whole_told (a -ℤ b)))
  known_told binary.Multiplication =
      as_number _ _ (on_numbers_told binary.Multiplication type.Number j k _ v u h.known g.known (λ a b. signed_told (known.is_negative a || known.is_negative b) (operator.is_negative a || operator.is_negative b) (a *ℤ b)))
  known_told binary.Division = as_number _ _ (on_numbers_told binary.Division type.Number j k _ v u h.known g.known divided_told)
  known_told binary.Remainder = as_number _ _ (on_numbers_told binary.Remainder type.Number j k _ v u h.known g.known remainder_told)
  known_told o = ends_unknown

  no_value : (o : BinaryOperator) → on_known_numbers o j k ≡ unknown → (w : Value) → IsTold type.Boolean unknown w → IsTold type.Boolean (on_known_numbers o j k) w
  no_value o e w told = record { type = told.type; known = subst (λ r. Is r w) (sym e) tt }

  pub binary_told : (E : Enter) (o : BinaryOperator) → Gives (IsTold (binary_type o s t) (binary_known o x y j k)) (binary_value E o v u)
  binary_told E binary.In = gives_map (asked_told E Act.asks_in s v u) (no_value binary.In (none_known binary.In j k (λ a b. refl)))
  binary_told E binary.Instanceof = gives_map (asked_told E Act.asks_instanceof s v u) (no_value binary.Instanceof (none_known binary.Instanceof j k (λ a b. refl)))
  binary_told E o = ends_choose (is_other v || is_other u) (λ e. ends_unknown) (λ e. known_told o)
