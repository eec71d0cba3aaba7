use Rattle.std.proofs.Common.{◌≡◌, length}
use Rattle.js_syntax.specs.Node.{row}
use Rattle.js_meaning.specs.Module.{list_below}
use Rattle.run_names.proofs.module.list_below.Given as goal

abbrev pub invariant-loop-rest : goal.invariant-loop-rest
invariant-loop-rest l = list_below (row l.rest) ≡ list_below (row l.nodes)

abbrev pub decreases-loop-rest : goal.decreases-loop-rest
decreases-loop-rest l = length l.rest
