use Rattle.std.proofs.Common.{length}
use Rattle.run_scope.proofs.exports.+sorted.Given as goal

abbrev pub decreases-sorted : goal.decreases-sorted
decreases-sorted l = length l.exports.now
