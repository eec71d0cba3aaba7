-- What code knows of an expression, as contracts see it.
use Rattle.std.specs.Prelude.{◌++◌, Option, Some, None, ℤ}
use Rattle.js_effects.specs.declared.known.KnownValue.{KnownValue}
use Rattle.js_effects.specs.declared.known.KnownValue.TheVariants as is
use Rattle.js_effects.specs.declared.value.ConstantValue.TheVariants as constant
use Rattle.js_effects.specs.Values.{Known, exactly, only_truth, unknown}

-- a text may stand in two parts
abbrev pub known_view : KnownValue → Known
known_view (is.Number z) = exactly (constant.Number z)
known_view (is.Text s t) = exactly (constant.Text (s.now ++ t.now))
known_view (is.Boolean b) = exactly (constant.Boolean b)
known_view is.Null = exactly constant.Null
known_view is.Undefined = exactly constant.Undefined
known_view (is.Truth b) = only_truth b
known_view is.Unknown = unknown

-- a number that came out
abbrev pub number_view : Option ℤ → Known
number_view (Some z) = exactly (constant.Number z)
number_view None = unknown
