use Rattle.std.proofs.Common.{◌∙◌, sym, true, ◌≡◌, Err}
use Rattle.std.specs.Str.{all_ascii_digits}
use Rattle.std.proofs.lemmas.Str.Parse.{numerals_by_value, tells_all_ascii_digits, parse_digits}
use Rattle.fresh_names.proofs.Read.{too_great}
use Rattle.fresh_names.proofs.uid.postfix.Goals as goal

pub returns-in_default-2 : goal.returns-in_default-2
returns-in_default-2 c =
    too_great c.args.digits.now (sym c.is_empty.ensures ∙ c.if-is_empty.false)
    (parse_digits (numerals_by_value (λ ds. all_ascii_digits ds ≡ true) tells_all_ascii_digits) 32 c.args.digits.now (Err c.in_default.field-0) c.in_default.ensures.value.0 c.requires)
