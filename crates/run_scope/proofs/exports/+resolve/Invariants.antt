use Rattle.std.proofs.Common.{length}
use Rattle.run_scope.proofs.exports.+resolve.Given as goal

abbrev pub decreases-resolve : goal.decreases-resolve
decreases-resolve l = length l.entries.now
