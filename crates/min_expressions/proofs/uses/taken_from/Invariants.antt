use Rattle.std.proofs.Common.{◌≡◌, drop}
use Rattle.steps.specs.Allowed.Unused.{somebody}
use Rattle.rules.specs.Expressions.Uses.{taken_from}
use Rattle.min_expressions.specs.Uses.{taker}
use Rattle.min_expressions.proofs.uses.taken_from.Given as goal

abbrev pub invariant-loop-ancestor : goal.invariant-loop-ancestor
invariant-loop-ancestor l = taken_from (taker l.taken) (drop l.ancestor-index l.above) ≡ taken_from somebody l.above
