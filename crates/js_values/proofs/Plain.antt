-- Operators give their values without a receiver.
use Rattle.std.proofs.Common.{ℤ, Bool, ◌||◌, Option, Some, None}
use Rattle.std.specs.Prelude.{◌+ℤ◌, ◌-ℤ◌, ◌*ℤ◌, neg_ℤ, int_lt, int_le, int_div, int_rem, nat_le, unsigned_abs}
use Rattle.js_syntax.specs.declared.operator.UnaryOperator.{UnaryOperator}
use Rattle.js_syntax.specs.declared.operator.UnaryOperator.TheVariants as unary
use Rattle.js_syntax.specs.declared.operator.BinaryOperator.{BinaryOperator}
use Rattle.js_syntax.specs.declared.operator.BinaryOperator.TheVariants as binary
use Rattle.js_meaning.specs.Value.{Text, Value, plain, number, Plain, undef}
use Rattle.js_meaning.specs.State.{Completion, gives, M, give, choose}
use Rattle.js_meaning.specs.Operator as operator
use Rattle.js_meaning.specs.Operator.{is_other, compare, known_binary, binary_of, unary_of}
use Rattle.js_values.specs.Gives.{Ends}
use Rattle.js_values.proofs.Gives.{ends_unknown, ends_done, ends_choose}

module _ {W : Completion → Type 0} (gift : (v : Value) → W (gives v undef)) where
  given : (v : Value) → Ends W (give v)
  given v = ends_done (gives v undef) (gift v)

  whole : (z : ℤ) → Ends W (operator.whole z)
  whole z = ends_choose _ (λ e. given (plain (number z))) (λ e. ends_unknown)

  signed : (minus : Bool) (z : ℤ) → Ends W (operator.signed minus z)
  signed minus z = ends_choose _ (λ e. ends_unknown) (λ e. whole z)

  divided : (a b : ℤ) → Ends W (operator.divided a b)
  divided a b = ends_choose _ (λ e. ends_unknown) (λ e. signed (operator.is_negative b) (int_div a b))

  remainder : (a b : ℤ) → Ends W (operator.remainder a b)
  remainder a b = ends_choose _ (λ e. ends_unknown) (λ e. signed (operator.is_negative a) (int_rem a b))

  on_number : (op : ℤ → M) → ((z : ℤ) → Ends W (op z)) → (v : Value) → Ends W (operator.on_number op v)
  on_number op h (plain (number a)) = h a
  on_number op h v = ends_unknown

  on_numbers : (op : ℤ → ℤ → M) → ((a b : ℤ) → Ends W (op a b)) → (v u : Value) → Ends W (operator.on_numbers op v u)
  on_numbers op h (plain (number a)) (plain (number b)) = h a b
  on_numbers op h v u = ends_unknown

  joined : (a b : Option Text) → Ends W (operator.joined a b)
  joined (Some a) (Some b) = given _
  joined (Some a) None = ends_unknown
  joined None b = ends_unknown

  plus_plain : (p q : Plain) → Ends W (operator.plus_plain p q)
  plus_plain (number a) (number b) = whole (a +ℤ b)
  plus_plain p q = ends_choose _ (λ e. joined (operator.plain_text p) (operator.plain_text q)) (λ e. ends_unknown)

  plus : (v u : Value) → Ends W (operator.plus v u)
  plus (plain p) (plain q) = plus_plain p q
  plus v u = ends_unknown

  compared : {k : Bool → M} (v u : Value) → ((b : Bool) → Ends W (k b)) → Ends W (compare v u k)
  unfolding compare
  compared v u h = record { at = λ s. (h (operator.strictly_equal v u)).at s }

  loosely : {k : Bool → M} (v u : Value) → ((b : Bool) → Ends W (k b)) → Ends W (operator.loosely v u k)
  loosely v u h = ends_choose _ (λ e. h _) (λ e. ends_choose (operator.same_type v u) (λ f. compared v u h) (λ f. ends_unknown))

  pub plain_unary : (o : UnaryOperator) (v : Value) → Ends W (unary_of o v)
  plain_unary unary.LogicalNot v = given _
  plain_unary unary.UnaryNegation v = on_number _ (λ a. signed _ (neg_ℤ a)) v
  plain_unary unary.UnaryPlus v = on_number operator.whole whole v
  plain_unary unary.Typeof v = given _
  plain_unary unary.Void v = given undef
  plain_unary o v = ends_unknown

  known : (o : BinaryOperator) (v u : Value) → Ends W (known_binary o v u)
  known binary.Equality v u = loosely {k = operator.answer_is} v u (λ b. given _)
  known binary.Inequality v u = loosely {k = operator.answer_not} v u (λ b. given _)
  known binary.StrictEquality v u = compared v u (λ b. given _)
  known binary.StrictInequality v u = compared v u (λ b. given _)
  known binary.LessThan v u = on_numbers _ (λ a b. given _) v u
  known binary.LessEqualThan v u = on_numbers _ (λ a b. given _) v u
  known binary.GreaterThan v u = on_numbers _ (λ a b. given _) v u
  known binary.GreaterEqualThan v u = on_numbers _ (λ a b. given _) v u
  known binary.Addition v u = plus v u
  known binary.Subtraction v u = on_numbers _ (λ a b. whole (a -ℤ b)) v u
  known binary.Multiplication v u = on_numbers operator.times (λ a b. signed (operator.is_negative a || operator.is_negative b) (a *ℤ b)) v u
  known binary.Division v u = on_numbers operator.divided divided v u
  known binary.Remainder v u = on_numbers operator.remainder remainder v u
  known o v u = ends_unknown

  pub plain_binary : (o : BinaryOperator) (v u : Value) → Ends W (binary_of o v u)
  plain_binary o v u = ends_choose (is_other v || is_other u) (λ e. ends_unknown) (λ e. known o v u)
