-- What operators do is quiet, on whatever values: what they don't settle is uncovered.
use Rattle.std.specs.Prelude.{◌+ℤ◌, ◌-ℤ◌, ◌*ℤ◌, neg_ℤ, int_div, int_rem}
use Rattle.std.proofs.Common.{◌≡◌, ◌||◌, ℤ, Bool, true, false, not, Option, Some, None, true≢false}
use Rattle.js_syntax.specs.declared.operator.UnaryOperator.{UnaryOperator}
use Rattle.js_syntax.specs.declared.operator.UnaryOperator.TheVariants as unary
use Rattle.js_syntax.specs.declared.operator.BinaryOperator.{BinaryOperator}
use Rattle.js_syntax.specs.declared.operator.BinaryOperator.TheVariants as binary
use Rattle.js_meaning.specs.Value.{Text, Plain, number, Value, plain, undef}
use Rattle.js_meaning.specs.State.{Completion, M, get_global}
use Rattle.js_meaning.specs.Operator.{is_negative, whole, signed, times, divided, remainder, on_numbers, on_number, plain_text, joined, plus_plain, plus, strictly_equal, compare, same_type, loosely, answer_is, answer_not, known_binary, binary_of, unary_of}
use Rattle.js_meaning.specs.Host.{Enter}
use Rattle.js_meaning.specs.Reference.{Global, the_undefined, no_whole_number, usual, global_value, or_undefined}
use Rattle.js_meaning.specs.Expression.{binary_value}
use Rattle.js_effects_quiet.specs.Quiet.{Quietly, Quiet}
use Rattle.js_effects.specs.Kinds.{asks_an_object}
use Rattle.js_effects_quiet.proofs.Quiet.{quiet_unknown, quiet_choose, quiet_give}

-- numbers

quiet_whole : (z : ℤ) → Quiet (whole z)
quiet_whole z = quiet_choose _ (quiet_give _) quiet_unknown

quiet_signed : (minus : Bool) (z : ℤ) → Quiet (signed minus z)
quiet_signed minus z = quiet_choose _ quiet_unknown (quiet_whole z)

quiet_divided : (a b : ℤ) → Quiet (divided a b)
quiet_divided a b = quiet_choose _ quiet_unknown (quiet_signed (is_negative b) (int_div a b))

quiet_remainder : (a b : ℤ) → Quiet (remainder a b)
quiet_remainder a b = quiet_choose _ quiet_unknown (quiet_signed (is_negative a) (int_rem a b))

quiet_on_number : (op : ℤ → M) → ((z : ℤ) → Quiet (op z)) → (v : Value) → Quiet (on_number op v)
quiet_on_number op h (plain (number a)) = h a
quiet_on_number op h v = quiet_unknown

quiet_on_numbers : (op : ℤ → ℤ → M) → ((a b : ℤ) → Quiet (op a b)) → (v u : Value) → Quiet (on_numbers op v u)
quiet_on_numbers op h (plain (number a)) (plain (number b)) = h a b
quiet_on_numbers op h v u = quiet_unknown

-- texts

quiet_joined : (a b : Option Text) → Quiet (joined a b)
quiet_joined (Some a) (Some b) = quiet_give _
quiet_joined a b = quiet_unknown

quiet_plus_plain : (p q : Plain) → Quiet (plus_plain p q)
quiet_plus_plain (number a) (number b) = quiet_whole (a +ℤ b)
quiet_plus_plain p q = quiet_choose _ (quiet_joined (plain_text p) (plain_text q)) quiet_unknown

quiet_plus : (v u : Value) → Quiet (plus v u)
quiet_plus (plain p) (plain q) = quiet_plus_plain p q
quiet_plus v u = quiet_unknown

-- equality

quiet_answer : (b : Bool) → Quiet (answer_is b)
quiet_answer b = quiet_give _

quiet_compare : {W : Completion → Type 0} {k : Bool → M} (v u : Value) → ((b : Bool) → Quietly W (k b)) → Quietly W (compare v u k)
unfolding compare
quiet_compare v u h = record { at = λ s. (h (strictly_equal v u)).at s }

quiet_loosely : {k : Bool → M} (v u : Value) → ((b : Bool) → Quiet (k b)) → Quiet (loosely v u k)
quiet_loosely v u h = quiet_choose _ (h _) (quiet_choose (same_type v u) (quiet_compare v u h) quiet_unknown)

-- operators

pub quiet_unary_of : (o : UnaryOperator) (v : Value) → Quiet (unary_of o v)
quiet_unary_of unary.LogicalNot v = quiet_give _
quiet_unary_of unary.UnaryNegation v = quiet_on_number _ (λ a. quiet_signed true (neg_ℤ a)) v
quiet_unary_of unary.UnaryPlus v = quiet_on_number whole quiet_whole v
quiet_unary_of unary.Typeof v = quiet_give _
quiet_unary_of unary.Void v = quiet_give undef
quiet_unary_of o v = quiet_unknown

quiet_known : (o : BinaryOperator) (v u : Value) → Quiet (known_binary o v u)
quiet_known binary.Equality v u = quiet_loosely {k = answer_is} v u quiet_answer
quiet_known binary.Inequality v u = quiet_loosely {k = answer_not} v u (λ b. quiet_answer (not b))
quiet_known binary.StrictEquality v u = quiet_compare v u quiet_answer
quiet_known binary.StrictInequality v u = quiet_compare v u (λ b. quiet_answer (not b))
quiet_known binary.LessThan v u = quiet_on_numbers _ (λ a b. quiet_give _) v u
quiet_known binary.LessEqualThan v u = quiet_on_numbers _ (λ a b. quiet_give _) v u
quiet_known binary.GreaterThan v u = quiet_on_numbers _ (λ a b. quiet_give _) v u
quiet_known binary.GreaterEqualThan v u = quiet_on_numbers _ (λ a b. quiet_give _) v u
quiet_known binary.Addition v u = quiet_plus v u
quiet_known binary.Subtraction v u = quiet_on_numbers _ (λ a b. quiet_whole (a -ℤ b)) v u
quiet_known binary.Multiplication v u = quiet_on_numbers times (λ a b. quiet_signed (is_negative a || is_negative b) (a *ℤ b)) v u
quiet_known binary.Division v u = quiet_on_numbers divided quiet_divided v u
quiet_known binary.Remainder v u = quiet_on_numbers remainder quiet_remainder v u
quiet_known o v u = quiet_unknown

quiet_binary_of : (o : BinaryOperator) (v u : Value) → Quiet (binary_of o v u)
quiet_binary_of o v u = quiet_choose _ quiet_unknown (quiet_known o v u)

pub quiet_binary_value : (E : Enter) (o : BinaryOperator) (v u : Value) → asks_an_object o ≡ false → Quiet (binary_value E o v u)
quiet_binary_value E binary.In v u e = absurd (true≢false e)
quiet_binary_value E binary.Instanceof v u e = absurd (true≢false e)
quiet_binary_value E o v u e = quiet_binary_of o v u

-- `typeof` of a name that has no binding

quiet_global : {W : Completion → Type 0} {k : Option Value → M} (x : Text) → ((o : Option Value) → Quietly W (k o)) → Quietly W (get_global x k)
unfolding get_global
quiet_global x h = record { at = λ s. (h (s.globals x)).at s }

quiet_or_undefined : (o : Option Value) → Quiet (or_undefined o)
quiet_or_undefined None = quiet_give undef
quiet_or_undefined (Some v) = quiet_give v

pub quiet_typeof_global : (g : Global) (x : Text) → Quiet (global_value g x or_undefined)
quiet_typeof_global the_undefined x = quiet_give undef
quiet_typeof_global no_whole_number x = quiet_unknown
quiet_typeof_global usual x = quiet_global x quiet_or_undefined
