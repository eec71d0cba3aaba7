use Rattle.std.proofs.Common.{length}
use Rattle.test_scope.proofs.marks.+set_mark.Given as goal

abbrev pub decreases-set_mark : goal.decreases-set_mark
decreases-set_mark l = length l.path.now
