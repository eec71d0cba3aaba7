-- Which values of a tree are written as something else.
use Rattle.std.specs.Prelude.{◌≡◌, ℕ, ◌+◌, negsuc, List, [], ◌∷◌, Bool, true, false, not, Some, if◌then◌else◌}
use Rattle.js_syntax.specs.Scalar.{Scalar, the_value, the_key, the_module_name, the_module_name_or_null}
use Rattle.js_syntax.specs.declared.value.LiteralValue.TheVariants as value
use Rattle.js_syntax.specs.declared.value.Key.TheVariants.{Name as key_name}
use Rattle.js_syntax.specs.declared.value.ModuleName.TheVariants.{Name as plain_name}
use Rattle.js_syntax.specs.declared.node_kind.NodeKind.{NodeKind as Kind}
use Rattle.js_syntax.specs.Node.{Forest, total}
use Rattle.js_syntax.specs.Facts.{scalars_of}
use Rattle.json_text.specs.Text.{is_identifier_name}

-- a negative number is written as unary minus on its magnitude
abbrev pub is_negative : Scalar → Bool
is_negative (the_value (value.Number (negsuc n))) = true
is_negative s = false

-- a name that is none (ECMA-262 12.7) is written as a text, where a text may stand
abbrev pub is_misnamed : Scalar → Bool
is_misnamed (the_key (key_name s)) = not (is_identifier_name s)
is_misnamed (the_module_name (plain_name s)) = not (is_identifier_name s)
is_misnamed (the_module_name_or_null (Some (plain_name s))) = not (is_identifier_name s)
is_misnamed s = false

abbrev pub count_among : (Scalar → Bool) → List Scalar → ℕ
count_among test [] = 0
count_among test (s ∷ ss) = (if test s then 1 else 0) + count_among test ss

-- how many such values a kind carries
abbrev pub negative : Kind → ℕ
negative k = count_among is_negative (scalars_of k)

abbrev pub misnamed : Kind → ℕ
misnamed k = count_among is_misnamed (scalars_of k)

-- each value is written as what it is
pub record IsWrittenAsItIs (t : Forest) : Type 0 where
  pub numbers : total negative t ≡ 0
  pub names : total misnamed t ≡ 0
