use Rattle.std.proofs.Common.{length}
use Rattle.run_world.proofs.seeing.+nth.Given as goal

abbrev pub decreases-nth : goal.decreases-nth
decreases-nth l = length l.seen.now
