use Rattle.std.proofs.Common.{◌≡◌, drop}
use Rattle.js_syntax.specs.Node.{row}
use Rattle.rules.specs.DeadCode.Rules.{has_dead}
use Rattle.min_statements.proofs.goes.has_dead.Given as goal

abbrev pub invariant-loop-item : goal.invariant-loop-item
invariant-loop-item l = has_dead l.facts l.at (row l.items) ≡ has_dead l.facts l.at (row (drop l.item-index l.items))
