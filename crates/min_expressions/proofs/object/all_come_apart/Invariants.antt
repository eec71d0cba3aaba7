use Rattle.std.proofs.Common.{◌≡◌, drop}
use Rattle.js_syntax.specs.Node.{row}
use Rattle.min_expressions.proofs.Objects.{some_other}
use Rattle.min_expressions.proofs.object.all_come_apart.Given as goal

abbrev pub invariant-loop-property : goal.invariant-loop-property
invariant-loop-property l = some_other (row l.properties) ≡ some_other (row (drop l.property-index l.properties))
