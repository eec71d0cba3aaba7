use Rattle.std.proofs.Common.{length}
use Rattle.run_world.proofs.world.World.+show_exports.Given as goal

abbrev pub decreases-show_exports : goal.decreases-show_exports
decreases-show_exports l = length l.exports.now
