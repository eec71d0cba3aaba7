-- The first of several values.
use Rattle.std.specs.Prelude.{List, [], ◌∷◌}
use Rattle.js_meaning.specs.Value.{Value, undef}

abbrev pub first_or_undefined : List Value → Value
first_or_undefined [] = undef
first_or_undefined (v ∷ vs) = v
