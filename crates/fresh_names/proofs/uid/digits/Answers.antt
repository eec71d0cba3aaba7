use Rattle.std.proofs.Common.{◌∙◌, ap}
use Rattle.std.specs.Str.{all_ascii_digits}
use Rattle.fresh_names.proofs.Read.{only_digits}
use Rattle.fresh_names.proofs.uid.digits.Goals as goal

pub returns-clause-only : goal.returns-clause-only
returns-clause-only c = ap all_ascii_digits c.range_from.ensures.value ∙ only_digits c.without_underscores-rest.result.now c.digits_start.result c.digits_start.ensures.digits
