use Rattle.std.proofs.Common.{◌+◌, ◌*◌, take}
use Rattle.js_syntax.specs.Node.{row}
use Rattle.js_tree.specs.Weight.{size_of, tree_size}
use Rattle.js_tree.specs.Walk.{Walks}
use Rattle.js_tree.proofs.visit.+walk.Given as goal

abbrev pub decreases-walk_node : goal.decreases-walk_node
decreases-walk_node g l = 2 * tree_size l.node.now

abbrev pub decreases-walk_children : goal.decreases-walk_children
decreases-walk_children g l = 2 * size_of (row l.children.now) + 1

abbrev pub invariant-walk_children-loop-child : goal.invariant-walk_children-loop-child
invariant-walk_children-loop-child g l = Walks g.V.Visit.visits (row (take l.child-index l.children)) l.initial.visitor l.visitor
