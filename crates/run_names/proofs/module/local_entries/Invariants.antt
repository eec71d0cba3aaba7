use Rattle.std.proofs.Common.{◌≡◌, ◌++◌, length}
use Rattle.js_syntax.specs.Node.{row}
use Rattle.js_meaning.specs.Module.{local_entries}
use Rattle.run_names.specs.Export.{entries_held}
use Rattle.run_names.proofs.module.local_entries.Given as goal

abbrev pub invariant-loop-rest : goal.invariant-loop-rest
invariant-loop-rest l = entries_held l.found.items ++ local_entries (row l.rest) ≡ entries_held l.fn.found.items ++ local_entries (row l.nodes)

abbrev pub decreases-loop-rest : goal.decreases-loop-rest
decreases-loop-rest l = length l.rest
