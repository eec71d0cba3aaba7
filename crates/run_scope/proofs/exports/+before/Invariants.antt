use Rattle.std.proofs.Common.{length}
use Rattle.run_scope.proofs.exports.+before.Given as goal

abbrev pub decreases-before : goal.decreases-before
decreases-before l = length l.text.now
