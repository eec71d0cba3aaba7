use Rattle.std.proofs.Common.{◌-◌, length}
use Rattle.js_syntax.specs.Node.{row}
use Rattle.min_imports.specs.Merging.{overlaid}
use Rattle.min_imports.proofs.Finding.{NoneBefore}
use Rattle.min_imports.proofs.merged.receiver.Given as goal

abbrev pub invariant-loop-at : goal.invariant-loop-at
invariant-loop-at l = NoneBefore l.source (row l.later) l.staying (overlaid l.items l.changed) l.at

abbrev pub decreases-loop-at : goal.decreases-loop-at
decreases-loop-at l = length l.staying - l.at
