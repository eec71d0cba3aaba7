use Rattle.std.proofs.Common.{◌≡◌, drop}
use Rattle.js_syntax.specs.Node.{row}
use Rattle.min_expressions.specs.Sequences.{some_stay}
use Rattle.min_expressions.proofs.sequence.some_stay.Given as goal

abbrev pub invariant-loop-part : goal.invariant-loop-part
invariant-loop-part l = some_stay (row l.parts) ≡ some_stay (row (drop l.part-index l.parts))
