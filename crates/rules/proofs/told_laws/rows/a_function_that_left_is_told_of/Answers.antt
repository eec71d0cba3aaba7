use Rattle.std.proofs.Common.{refl}
use Rattle.rules.proofs.Told.Tried.{function_goes}
use Rattle.rules.proofs.told_laws.rows.a_function_that_left_is_told_of.Goals as goal

pub returns : goal.returns
returns c = record { edit = function_goes; before = refl; left = refl; refreshed = refl }
