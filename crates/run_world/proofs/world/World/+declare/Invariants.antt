use Rattle.std.proofs.Common.{length}
use Rattle.run_world.proofs.world.World.+declare.Given as goal

abbrev pub decreases-declare : goal.decreases-declare
decreases-declare l = length l.decls.now
