use Rattle.std.proofs.Common.{◌≡◌, drop}
use Rattle.js_syntax.specs.Node.{row}
use Rattle.js_effects.specs.Effects.{has_spread}
use Rattle.js_effects.proofs.effects.has_spread.Given as goal

abbrev pub invariant-loop-child : goal.invariant-loop-child
invariant-loop-child l = has_spread (row l.children) ≡ has_spread (row (drop l.child-index l.children))
