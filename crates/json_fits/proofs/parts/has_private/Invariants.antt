use Rattle.std.proofs.Common.{◌≡◌, drop}
use Rattle.js_syntax.specs.Node.{row}
use Rattle.js_syntax.specs.Hint.{has, is_private}
use Rattle.json_fits.proofs.parts.has_private.Given as goal

abbrev pub invariant-loop-node : goal.invariant-loop-node
invariant-loop-node l = has is_private (row l.nodes) ≡ has is_private (row (drop l.node-index l.nodes))
