use Rattle.std.proofs.Common.{◌≡◌, ◌++◌, map, drop}
use Rattle.js_syntax.specs.Node.{row}
use Rattle.js_traverse.specs.Below.{outermost}
use Rattle.js_traverse.proofs.below.add_outermost_among.Given as goal

abbrev pub invariant-loop-node : goal.invariant-loop-node
invariant-loop-node l = map (λ s. s.0) l.found.items ++ outermost (row (drop l.node-index l.nodes)) ≡ map (λ s. s.0) l.initial.found.items ++ outermost (row l.nodes)
