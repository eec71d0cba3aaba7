use Rattle.std.proofs.Common.{length}
use Rattle.run_world.proofs.acts.+stored.Given as goal

abbrev pub decreases-stored : goal.decreases-stored
decreases-stored l = length l.cells.now
