use Rattle.std.proofs.Common.{◌≡◌, drop}
use Rattle.steps.specs.Allowed.Uses.{as_value}
use Rattle.rules.specs.Expressions.Uses.{use_from}
use Rattle.min_expressions.specs.Uses.{told}
use Rattle.min_expressions.proofs.uses.use_from.Given as goal

abbrev pub invariant-loop-ancestor : goal.invariant-loop-ancestor
invariant-loop-ancestor l = use_from (told l.used) (drop l.ancestor-index l.above) ≡ use_from as_value l.above
