use Rattle.std.proofs.Common.{length}
use Rattle.run_world.proofs.world.World.+resolve_all.Given as goal

abbrev pub decreases-resolve_all : goal.decreases-resolve_all
decreases-resolve_all l = length l.givens.now
