use Rattle.std.proofs.Common.{refl}
use Rattle.rules.proofs.Told.Tried.{branch_is_taken, call_is_gone}
use Rattle.rules.proofs.told_laws.rows.a_call_that_left_is_told_of.Goals as goal

pub returns : goal.returns
returns c = record { edit = branch_is_taken; before = refl; left = refl; unkept = call_is_gone; refreshed = refl }
