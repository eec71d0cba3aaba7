use Rattle.std.proofs.Common.{◌≡◌, drop}
use Rattle.js_syntax.specs.Node.{row}
use Rattle.min_expressions.proofs.Lists.{some_idle}
use Rattle.min_expressions.proofs.list.has_idle.Given as goal

abbrev pub invariant-loop-part : goal.invariant-loop-part
invariant-loop-part l = some_idle (row l.parts) ≡ some_idle (row (drop l.part-index l.parts))
