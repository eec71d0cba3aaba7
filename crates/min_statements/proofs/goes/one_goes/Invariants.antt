use Rattle.std.proofs.Common.{◌≡◌, drop}
use Rattle.js_syntax.specs.Node.{row}
use Rattle.rules.specs.DeadCode.Rules.{one_goes}
use Rattle.min_statements.proofs.goes.one_goes.Given as goal

abbrev pub invariant-loop-child : goal.invariant-loop-child
invariant-loop-child l = one_goes l.facts l.at l.how (row l.declarators) ≡ one_goes l.facts l.at l.how (row (drop l.child-index l.declarators))
