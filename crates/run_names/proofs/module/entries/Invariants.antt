use Rattle.std.proofs.Common.{◌≡◌, ◌++◌, length}
use Rattle.js_syntax.specs.Node.{row}
use Rattle.js_meaning.specs.Module.{entries}
use Rattle.run_names.specs.Export.{entries_held}
use Rattle.run_names.proofs.module.entries.Given as goal

abbrev pub invariant-loop-rest : goal.invariant-loop-rest
invariant-loop-rest l = entries_held l.found.items ++ entries (row l.rest) ≡ entries (row l.nodes)

abbrev pub decreases-loop-rest : goal.decreases-loop-rest
decreases-loop-rest l = length l.rest
