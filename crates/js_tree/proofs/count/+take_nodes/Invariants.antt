use Rattle.std.proofs.Common.{◌≡◌, ◌-◌, drop}
use Rattle.js_syntax.specs.Node.{row, forest_of}
use Rattle.js_tree.specs.Weight.{tree_size}
use Rattle.js_tree.specs.Count.{node_count}
use Rattle.js_tree.proofs.count.+take_nodes.Given as goal

abbrev pub decreases-take_nodes : goal.decreases-take_nodes
decreases-take_nodes l = tree_size l.node.now

abbrev pub invariant-loop-child : goal.invariant-loop-child
invariant-loop-child l =
    l.rest - node_count (row (drop l.child-index l.children)) ≡ l.left - node_count (forest_of l.node)
