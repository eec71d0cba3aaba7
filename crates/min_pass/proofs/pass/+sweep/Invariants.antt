use Rattle.std.proofs.Common.{◌≡◌, ◌≤◌, ◌+◌, ◌*◌, map, drop}
use Rattle.js_syntax.specs.Node.{row}
use Rattle.js_tree.specs.Weight.{size_of, tree_size}
use Rattle.js_tree.proofs.Sizes.{child_size}
use Rattle.min_pass.specs.Sweep.{swept_child}
use Rattle.min_pass.proofs.Sweeping.{changing}
use Rattle.min_pass.proofs.pass.+sweep.Given as goal

abbrev pub decreases-sweep_node : goal.decreases-sweep_node
decreases-sweep_node l = 3 * tree_size l.node.now

abbrev pub decreases-sweep_child : goal.decreases-sweep_child
decreases-sweep_child l = 3 * child_size l.child.now + 1

abbrev pub decreases-sweep_children : goal.decreases-sweep_children
decreases-sweep_children l = 3 * size_of (row l.children.now) + 2

abbrev pub invariant-sweep_children-loop-child : goal.invariant-sweep_children-loop-child
invariant-sweep_children-loop-child l = record {
  items : changing (swept_child l.around) l.children l.child-index ≡ map (swept_child l.around) l.fn.children;
  small : size_of (row (drop l.child-index l.children)) ≤ size_of (row l.fn.children);
}
