-- What edits leave of a program has exact values where the program has: so it is readable, or signable, where its text keeps JSON's limit of nesting.
use Rattle.std.proofs.Common.{◌≡◌, ◌≤◌, ◌+◌, ℕ, pos, negsuc, List, [], ◌∷◌, Bool, true, false, not, if◌then◌else◌, Some, refl, ap, arith}
use Rattle.serde_json.specs.Data.{depth}
use Rattle.serde_json.specs.Read.{max_depth}
use Rattle.js_syntax.specs.Class.{root}
use Rattle.js_syntax.specs.Scalar.{the_module_name}
use Rattle.js_syntax.specs.declared.value.ModuleName.{ModuleName}
use Rattle.js_syntax.specs.declared.value.ModuleName.TheVariants.{Name as plain_name, Text as quoted_name}
use Rattle.js_syntax.specs.declared.node_kind.NodeKind.TheVariants.{Literal as literal, ExportAllDeclaration as export_all_declaration, ExportSpecifier as export_specifier}
use Rattle.js_syntax.specs.declared.value.LiteralValue.{LiteralValue}
use Rattle.js_syntax.specs.declared.value.LiteralValue.TheVariants as value
use Rattle.js_syntax.specs.Node.{Forest, total}
use Rattle.json_text.specs.Text.{data_of, is_identifier_name}
use Rattle.json_shape.specs.Shape.{Fits}
use Rattle.json_shape.specs.Exact.{is_exact_number, is_exact_module_name, is_exact, inexact_among, inexact, IsExact}
use Rattle.json_shape.specs.Readable.{IsReadable}
use Rattle.json_kept.specs.Respelled.{is_misnamed, count_among, negative, misnamed, IsWrittenAsItIs}
use Rattle.json_kept.specs.Signs.{magnitude, inexact_size, IsSignable}
use Rattle.steps.specs.Allowed.Edits.{Edits}
use Rattle.steps.proofs.Owed.FitsEdits.{edits_fit}
use Rattle.steps.proofs.Owed.KnownSizes.{IsSmall}
use Rattle.steps.proofs.Owed.PassedLess.{IsPassing}
use Rattle.steps_keep_text.proofs.Along.{edits_shed}
use Rattle.steps_keep_text.proofs.Picked.{default_named, uncounted}
use Rattle.steps_keep_text.proofs.Smaller.{counts_shed}

-- no literal is counted that an operation becomes
small_misnamed : (w : LiteralValue) → IsSmall w → misnamed (literal w) ≡ 0
small_misnamed w small = refl

small_negative : (w : LiteralValue) → IsSmall w → negative (literal w) ≡ 0
small_negative (value.Number (negsuc n)) small = absurd small
small_negative w small = refl

none_if : (b : Bool) → b ≡ true → (if b then 0 else 1) + 0 ≡ 0
none_if true h = refl
none_if false h = absurd cc

small_inexact : (w : LiteralValue) → IsSmall w → inexact (literal w) ≡ 0
small_inexact (value.Number (pos n)) small = none_if (is_exact_number n) small
small_inexact (value.Number (negsuc n)) small = absurd small
small_inexact w small = refl

none_if_not : (b : Bool) → b ≡ true → (if not b then 1 else 0) + 0 ≡ 0
none_if_not true h = refl
none_if_not false h = absurd cc

small_inexact_size : (w : LiteralValue) → IsSmall w → inexact_size (literal w) ≡ 0
small_inexact_size (value.Number (pos n)) small = none_if_not (is_exact_number n) small
small_inexact_size (value.Number (negsuc n)) small = absurd small
small_inexact_size w small = refl

-- `default` is a name
default_is_spelled : misnamed default_named ≡ 0
unfolding is_identifier_name
default_is_spelled = refl

default_is_exact : inexact default_named ≡ 0
unfolding is_identifier_name
default_is_exact = refl

default_has_its_size : inexact_size default_named ≡ 0
unfolding is_identifier_name
default_has_its_size = refl

-- what is named as it may be isn't counted
none_misnamed : (imported : ModuleName) → is_exact_module_name imported ≡ true → count_among is_misnamed (the_module_name imported ∷ []) ≡ 0
none_misnamed (plain_name s) h = ap {B = ℕ} (λ b. (if not b then 1 else 0) + 0) h
none_misnamed (quoted_name s) h = refl

none_inexact : (imported : ModuleName) → is_exact_module_name imported ≡ true → inexact_among (the_module_name imported ∷ []) ≡ 0
none_inexact imported h = ap {B = ℕ} (λ b. (if b then 0 else 1) + 0) h

none_inexact_size : (imported : ModuleName) → is_exact_module_name imported ≡ true → count_among (λ s. not (is_exact (magnitude s))) (the_module_name imported ∷ []) ≡ 0
none_inexact_size imported h = ap {B = ℕ} (λ b. (if not b then 1 else 0) + 0) h

whole_misnamed : (source : List ℕ) (exported : ModuleName) → misnamed (export_all_declaration (Some exported) source) ≤ misnamed (export_specifier exported)
whole_misnamed source (plain_name s) = Prim.omega arith
whole_misnamed source (quoted_name s) = Prim.omega arith

misnamed_passes : IsPassing misnamed
misnamed_passes = record { named = λ source. Prim.omega arith; each = λ imported exported exact. Prim.omega (arith, none_misnamed imported exact); whole = λ source exported. Prim.omega (arith, whole_misnamed source exported) }

negative_passes : IsPassing negative
negative_passes = record { named = λ source. Prim.omega arith; each = λ imported exported exact. Prim.omega arith; whole = λ source exported. Prim.omega arith }

inexact_passes : IsPassing inexact
inexact_passes = record { named = λ source. Prim.omega arith; each = λ imported exported exact. Prim.omega (arith, none_inexact imported exact); whole = λ source exported. Prim.omega arith }

inexact_size_passes : IsPassing inexact_size
inexact_size_passes = record { named = λ source. Prim.omega arith; each = λ imported exported exact. Prim.omega (arith, none_inexact_size imported exact); whole = λ source exported. Prim.omega arith }

module _ (t u : Forest) (edits : Edits t u) (fits : Fits root t) where
  pub fewer_misnamed : total misnamed u ≤ total misnamed t
  fewer_misnamed = edits_shed (total misnamed) (counts_shed misnamed (uncounted misnamed refl refl refl refl small_misnamed (λ o. refl) refl (λ tail. refl) default_is_spelled) misnamed_passes) t u edits fits

  pub fewer_negative : total negative u ≤ total negative t
  fewer_negative = edits_shed (total negative) (counts_shed negative (uncounted negative refl refl refl refl small_negative (λ o. refl) refl (λ tail. refl) refl) negative_passes) t u edits fits

  pub left_as_it_is : IsWrittenAsItIs t → IsWrittenAsItIs u
  left_as_it_is so = record { numbers = Prim.omega (arith, fewer_negative, so.numbers); names = Prim.omega (arith, fewer_misnamed, so.names) }

  pub left_exact : IsExact t → IsExact u
  left_exact exact = Prim.omega (arith, edits_shed (total inexact) (counts_shed inexact (uncounted inexact refl refl refl refl small_inexact (λ o. refl) refl (λ tail. refl) default_is_exact) inexact_passes) t u edits fits, exact)

  pub left_exact_sizes : total inexact_size t ≡ 0 → total inexact_size u ≡ 0
  left_exact_sizes exact = Prim.omega (arith, edits_shed (total inexact_size) (counts_shed inexact_size (uncounted inexact_size refl refl refl refl small_inexact_size (λ o. refl) refl (λ tail. refl) default_has_its_size) inexact_size_passes) t u edits fits, exact)

  pub left_readable : IsExact t → depth (data_of u) ≤ max_depth → IsReadable u
  left_readable exact shallow = record { shape = edits_fit t u edits fits; values = left_exact exact; nesting = shallow }

  pub left_signable : total inexact_size t ≡ 0 → depth (data_of u) ≤ max_depth → IsSignable u
  left_signable exact shallow = record { shape = edits_fit t u edits fits; values = left_exact_sizes exact; nesting = shallow }
