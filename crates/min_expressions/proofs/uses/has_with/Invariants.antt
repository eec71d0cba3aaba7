use Rattle.std.proofs.Common.{◌≡◌, drop}
use Rattle.rules.specs.DeadCode.Rules.{has_with}
use Rattle.min_expressions.proofs.uses.has_with.Given as goal

abbrev pub invariant-loop-ancestor : goal.invariant-loop-ancestor
invariant-loop-ancestor l = has_with (drop l.ancestor-index l.above) ≡ has_with l.above
