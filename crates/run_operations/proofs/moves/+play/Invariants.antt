use Rattle.std.proofs.Common.{length}
use Rattle.run_operations.proofs.moves.+play.Given as goal

abbrev pub decreases-play : goal.decreases-play
decreases-play l = length l.moves.now
