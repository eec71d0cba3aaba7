use Rattle.std.proofs.Common.{length}
use Rattle.run_world.proofs.world.World.+show_all.Given as goal

abbrev pub decreases-show_all : goal.decreases-show_all
decreases-show_all l = length l.values.now
