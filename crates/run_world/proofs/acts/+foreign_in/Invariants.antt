use Rattle.std.proofs.Common.{length}
use Rattle.run_world.proofs.acts.+foreign_in.Given as goal

abbrev pub decreases-foreign_in : goal.decreases-foreign_in
decreases-foreign_in l = length l.foreign.now
