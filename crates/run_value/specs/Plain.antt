-- Values in memory that are no own objects.
use Rattle.std.specs.Prelude.{string_bytes}
use Rattle.js_meaning.specs.Value as meant
use Rattle.js_meaning.specs.Value.{a_number, a_bigint, a_symbol, a_string, undefined, null, boolean, number, text, host, other}
use Rattle.run_value.specs.declared.plain.Plain.{Plain}
use Rattle.run_value.specs.declared.plain.Plain.TheVariants.{Undefined, Null, Boolean, Number, Text, Host, Other}
use Rattle.run_value.specs.declared.plain.PrimitiveKind.{PrimitiveKind}
use Rattle.run_value.specs.declared.plain.PrimitiveKind.TheVariants as kind

abbrev pub kind_of : PrimitiveKind → meant.PrimitiveKind
kind_of kind.Number = a_number
kind_of kind.Bigint = a_bigint
kind_of kind.Symbol = a_symbol
kind_of kind.Text = a_string

abbrev pub plain_of : Plain → meant.Plain
plain_of Undefined = undefined
plain_of Null = null
plain_of (Boolean b) = boolean b
plain_of (Number z) = number z
plain_of (Text s) = text (string_bytes s.value)
plain_of (Host n callable) = host n callable
plain_of (Other n k truth) = other n (kind_of k) truth
