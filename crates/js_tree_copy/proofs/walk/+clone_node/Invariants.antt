use Rattle.std.proofs.Common.{◌≡◌, take}
use Rattle.js_tree.specs.Weight.{tree_size}
use Rattle.js_tree_copy.proofs.walk.+clone_node.Given as goal

abbrev pub decreases-clone_node : goal.decreases-clone_node
decreases-clone_node l = tree_size l.node.now

abbrev pub invariant-loop-child : goal.invariant-loop-child
invariant-loop-child l = l.copies.items ≡ take l.child-index l.children
