use Rattle.min_peephole.proofs.Keeping.{dce_clean, smallest_clean}
use Rattle.min_peephole.proofs.laws.options_that_keep_nothing.Goals as goal

pub returns : goal.returns
returns c = record { dce = dce_clean; smallest = smallest_clean }
