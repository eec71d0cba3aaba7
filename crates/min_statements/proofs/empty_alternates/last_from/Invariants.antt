use Rattle.std.proofs.Common.{◌≡◌, false, drop}
use Rattle.rules.specs.Expressions.EmptyAlternates.{last_from}
use Rattle.min_statements.proofs.empty_alternates.last_from.Given as goal

abbrev pub invariant-loop-ancestor : goal.invariant-loop-ancestor
invariant-loop-ancestor l = last_from l.last (drop l.ancestor-index l.above) ≡ last_from false l.above
