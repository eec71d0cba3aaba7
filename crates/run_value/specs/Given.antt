-- What operators give, where they give something; else nothing is said of what follows.
use Rattle.std.specs.Prelude.{◌||◌, String, string_bytes, ℤ, ◌+ℤ◌, ◌-ℤ◌, int_lt, int_le, Bool, Option, Some, None}
use Rattle.js_syntax.specs.declared.operator.BinaryOperator.{BinaryOperator}
use Rattle.js_syntax.specs.declared.operator.BinaryOperator.TheVariants as binary
use Rattle.std.specs.Global.{Global}
use Rattle.js_meaning.specs.Value.{Text, Plain, Value, plain, number}
use Rattle.js_meaning.specs.State.{M, give, unknown, choose}
use Rattle.js_meaning.specs.Operator.{answer_is, whole, times, divided, remainder, is_text, joined, plain_text}
use Rattle.run_value.specs.declared.plain.Plain as held
use Rattle.run_value.specs.declared.value.Value as held_value
use Rattle.run_value.specs.Plain.{plain_of}
use Rattle.run_value.specs.View.{value_of}

abbrev pub gives_number : Option ℤ → M
gives_number None = unknown
gives_number (Some z) = give (plain (number z))

abbrev pub plain_gives : Option held.Plain → M
plain_gives None = unknown
plain_gives (Some p) = give (plain (plain_of p))

abbrev pub gives : Option held_value.Value → M
gives None = unknown
gives (Some v) = give (value_of v)

-- a test that is made, or of which nothing is said
abbrev pub tested : Option Bool → (Bool → M) → M
tested None k = unknown
tested (Some b) k = k b

-- the operators on two numbers
abbrev pub computed : BinaryOperator → ℤ → ℤ → M
computed binary.LessThan a b = answer_is (int_lt a b)
computed binary.LessEqualThan a b = answer_is (int_le a b)
computed binary.GreaterThan a b = answer_is (int_lt b a)
computed binary.GreaterEqualThan a b = answer_is (int_le b a)
computed binary.Addition a b = whole (a +ℤ b)
computed binary.Subtraction a b = whole (a -ℤ b)
computed binary.Multiplication a b = times a b
computed binary.Division a b = divided a b
computed binary.Remainder a b = remainder a b
computed _ a b = unknown

-- the number that a value is
abbrev pub number_in : Value → Option ℤ
number_in (plain (number z)) = Some z
number_in _ = None

-- a text in memory, where there is one
abbrev pub text_in : Option (String Global) → Option Text
text_in None = None
text_in (Some s) = Some (string_bytes s)

-- `+` where one is no number
abbrev pub concatenated : Plain → Plain → M
concatenated p q = choose (is_text p || is_text q) (joined (plain_text p) (plain_text q)) unknown
