use Rattle.std.proofs.Common.{◌≡◌, ◌++◌, length}
use Rattle.js_syntax.specs.Node.{row}
use Rattle.js_meaning.specs.Module.{requests}
use Rattle.run_names.specs.Held.{held}
use Rattle.run_names.proofs.module.all_requests.Given as goal

abbrev pub invariant-loop-rest : goal.invariant-loop-rest
invariant-loop-rest l = held l.found.items ++ requests (row l.rest) ≡ requests (row l.nodes)

abbrev pub decreases-loop-rest : goal.decreases-loop-rest
decreases-loop-rest l = length l.rest
