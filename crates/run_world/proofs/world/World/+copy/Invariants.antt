use Rattle.std.proofs.Common.{length}
use Rattle.run_world.proofs.world.World.+copy.Given as goal

abbrev pub decreases-copy : goal.decreases-copy
decreases-copy l = length l.decls.now
