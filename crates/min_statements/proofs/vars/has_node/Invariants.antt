use Rattle.std.proofs.Common.{◌≡◌, length}
use Rattle.js_syntax.specs.Node.{row}
use Rattle.steps.specs.VarNames.Has.{has_node}
use Rattle.min_statements.proofs.vars.has_node.Given as goal

abbrev pub invariant-loop-rest : goal.invariant-loop-rest
invariant-loop-rest l = has_node (row l.children) ≡ has_node (row l.rest)

abbrev pub decreases-loop-rest : goal.decreases-loop-rest
decreases-loop-rest l = length l.rest
