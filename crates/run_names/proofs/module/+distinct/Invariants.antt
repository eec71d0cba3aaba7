use Rattle.std.proofs.Common.{length}
use Rattle.run_names.proofs.module.+distinct.Given as goal

abbrev pub decreases-distinct : goal.decreases-distinct
decreases-distinct l = length l.sources.now
