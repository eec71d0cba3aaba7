use Rattle.std.proofs.Common.{◌-◌, length}
use Rattle.min_imports.proofs.Closing.{Closes}
use Rattle.min_imports.proofs.repeated.keep_staying.Given as goal

abbrev pub invariant-loop-at : goal.invariant-loop-at
invariant-loop-at l = Closes l.staying l.fn.items.items l.items.items l.kept l.at

abbrev pub decreases-loop-at : goal.decreases-loop-at
decreases-loop-at l = length l.staying - l.at
