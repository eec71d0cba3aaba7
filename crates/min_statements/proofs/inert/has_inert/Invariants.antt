use Rattle.std.proofs.Common.{◌≡◌, false, length}
use Rattle.js_syntax.specs.Node.{row}
use Rattle.rules.specs.Expressions.Jumps.{has_inert}
use Rattle.min_statements.proofs.inert.has_inert.Given as goal

abbrev pub invariant-loop-rest : goal.invariant-loop-rest
invariant-loop-rest l = has_inert l.jumped (row l.rest) ≡ has_inert false (row l.children)

abbrev pub decreases-loop-rest : goal.decreases-loop-rest
decreases-loop-rest l = length l.rest
