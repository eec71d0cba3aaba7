use Rattle.std.proofs.Common.{length}
use Rattle.run_scope.proofs.exports.+insert.Given as goal

abbrev pub decreases-insert : goal.decreases-insert
decreases-insert l = length l.others.now
