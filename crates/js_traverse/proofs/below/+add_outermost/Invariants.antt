use Rattle.std.proofs.Common.{◌≡◌, ◌++◌, map, drop}
use Rattle.js_syntax.specs.Node.{row}
use Rattle.js_tree.specs.Weight.{tree_size}
use Rattle.js_traverse.specs.Below.{outermost}
use Rattle.js_traverse.proofs.below.+add_outermost.Given as goal

abbrev pub decreases-add_outermost : goal.decreases-add_outermost
decreases-add_outermost l = tree_size l.node.now

abbrev pub invariant-loop-child : goal.invariant-loop-child
invariant-loop-child l = map (λ s. s.0) l.found.items ++ outermost (row (drop l.child-index l.children)) ≡ map (λ s. s.0) l.initial.found.items ++ outermost (row l.children)
