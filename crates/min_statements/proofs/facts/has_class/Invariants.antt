use Rattle.std.proofs.Common.{◌≡◌, drop}
use Rattle.rules.specs.DeadCode.Rules.{has_class}
use Rattle.min_statements.proofs.facts.has_class.Given as goal

abbrev pub invariant-loop-ancestor : goal.invariant-loop-ancestor
invariant-loop-ancestor l = has_class (drop l.ancestor-index l.above) ≡ has_class l.above
