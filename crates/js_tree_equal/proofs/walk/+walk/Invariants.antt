use Rattle.std.proofs.Common.{◌+◌, ◌*◌, [], ◌∷◌}
use Rattle.js_syntax.specs.Node.{row}
use Rattle.js_tree.specs.Weight.{size_of, tree_size}
use Rattle.js_tree_equal.proofs.Same.{SameFrom}
use Rattle.js_tree_equal.proofs.walk.+walk.Given as goal

abbrev pub decreases-same_node : goal.decreases-same_node
decreases-same_node l = 2 * tree_size l.one.now

abbrev pub decreases-same_child : goal.decreases-same_child
decreases-same_child l = 2 * size_of (row (l.one.now ∷ [])) + 1

abbrev pub invariant-same_node-children : goal.invariant-same_node-children
invariant-same_node-children l = SameFrom l.at l.children l.others
