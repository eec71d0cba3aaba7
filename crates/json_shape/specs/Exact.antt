-- Which values have a text that is theirs alone.
use Rattle.std.specs.Prelude.{◌≡◌, ℕ, ◌+◌, ◌^◌, pos, negsuc, List, [], ◌∷◌, Bool, true, false, Some, nat_lt, if◌then◌else◌}
use Rattle.js_syntax.specs.Scalar.{Scalar, the_value, the_key, the_property, the_module_name, the_module_name_or_null}
use Rattle.js_syntax.specs.declared.value.LiteralValue.{LiteralValue as Value}
use Rattle.js_syntax.specs.declared.value.LiteralValue.TheVariants as value
use Rattle.js_syntax.specs.declared.value.Key.{Key}
use Rattle.js_syntax.specs.declared.value.Key.TheVariants.{Name as key_name, Number as key_number}
use Rattle.js_syntax.specs.declared.value.ModuleName.{ModuleName}
use Rattle.js_syntax.specs.declared.value.ModuleName.TheVariants.{Name as plain_name}
use Rattle.js_syntax.specs.declared.node_kind.NodeKind.{NodeKind as Kind}
use Rattle.js_syntax.specs.Node.{Forest, total}
use Rattle.js_syntax.specs.Facts.{scalars_of}
use Rattle.json_text.specs.Text.{is_identifier_name}

-- past 2^53 - 1 whole numbers aren't exact (ECMA-262 21.1.2.6)
abbrev pub is_exact_number : ℕ → Bool
is_exact_number n = nat_lt n (2 ^ 53)

-- a negative number is written as unary minus, which is no literal
abbrev pub is_exact_value : Value → Bool
is_exact_value (value.Number (pos n)) = is_exact_number n
is_exact_value (value.Number (negsuc n)) = false
is_exact_value _ = true

-- a name that isn't one is written as a text
abbrev pub is_exact_key : Key → Bool
is_exact_key (key_name s) = is_identifier_name s
is_exact_key (key_number n) = is_exact_number n
is_exact_key _ = true

abbrev pub is_exact_property : Key → Bool
is_exact_property (key_number n) = is_exact_number n
is_exact_property _ = true

abbrev pub is_exact_module_name : ModuleName → Bool
is_exact_module_name (plain_name s) = is_identifier_name s
is_exact_module_name _ = true

abbrev pub is_exact : Scalar → Bool
is_exact (the_value v) = is_exact_value v
is_exact (the_key key) = is_exact_key key
is_exact (the_property key) = is_exact_property key
is_exact (the_module_name m) = is_exact_module_name m
is_exact (the_module_name_or_null (Some m)) = is_exact_module_name m
is_exact _ = true

abbrev pub inexact_among : List Scalar → ℕ
inexact_among [] = 0
inexact_among (s ∷ ss) = (if is_exact s then 0 else 1) + inexact_among ss

-- how many such values a kind carries
abbrev pub inexact : Kind → ℕ
inexact k = inexact_among (scalars_of k)

abbrev pub IsExact : Forest → Type 0
IsExact t = total inexact t ≡ 0
