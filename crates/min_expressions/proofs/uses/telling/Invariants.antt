use Rattle.std.proofs.Common.{◌≤◌, length}
use Rattle.min_expressions.proofs.uses.telling.Given as goal

abbrev pub invariant-loop-at : goal.invariant-loop-at
invariant-loop-at l = l.at ≤ length l.above

abbrev pub decreases-loop-at : goal.decreases-loop-at
decreases-loop-at l = l.at
