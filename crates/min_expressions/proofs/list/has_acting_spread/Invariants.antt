use Rattle.std.proofs.Common.{◌≡◌, drop}
use Rattle.js_syntax.specs.Node.{row}
use Rattle.min_expressions.proofs.Lists.{has_acting_spread}
use Rattle.min_expressions.proofs.list.has_acting_spread.Given as goal

abbrev pub invariant-loop-part : goal.invariant-loop-part
invariant-loop-part l = has_acting_spread (row l.parts) ≡ has_acting_spread (row (drop l.part-index l.parts))
