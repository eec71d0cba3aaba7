use Rattle.std.proofs.Common.{◌≡◌, drop}
use Rattle.js_syntax.specs.Node.{row}
use Rattle.steps.specs.Allowed.UnusedList.{has_spread}
use Rattle.min_expressions.proofs.list.has_spread.Given as goal

abbrev pub invariant-loop-part : goal.invariant-loop-part
invariant-loop-part l = has_spread (row l.parts) ≡ has_spread (row (drop l.part-index l.parts))
