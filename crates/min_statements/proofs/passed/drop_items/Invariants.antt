use Rattle.std.proofs.Common.{◌-◌, length}
use Rattle.min_statements.proofs.Passing.{OutBefore}
use Rattle.min_statements.proofs.passed.drop_items.Given as goal

abbrev pub invariant-loop-at : goal.invariant-loop-at
invariant-loop-at l = OutBefore l.staying l.items l.at l.fn.ctx l.ctx

abbrev pub decreases-loop-at : goal.decreases-loop-at
decreases-loop-at l = length l.staying - l.at
