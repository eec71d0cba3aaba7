use Rattle.std.proofs.Common.{◌≡◌, ◌≤◌, ◌+◌, ◌*◌, drop}
use Rattle.js_syntax.specs.Node.{row}
use Rattle.js_tree.specs.Weight.{size_of, tree_size}
use Rattle.scope_rules.specs.Mark.{marked, behind_row}
use Rattle.scope_walk.proofs.MarkSteps.{all_marked, all_behind}
use Rattle.scope_walk.proofs.mark.+mark.Given as goal

abbrev pub decreases-mark_node : goal.decreases-mark_node
decreases-mark_node l = 2 * tree_size l.node.now

abbrev pub decreases-mark_children : goal.decreases-mark_children
decreases-mark_children l = 2 * size_of (row l.children.now) + 1

abbrev pub invariant-mark_children-loop-child : goal.invariant-mark_children-loop-child
invariant-mark_children-loop-child l = record {
  tree : all_marked l.children l.child-index l.marks ≡ marked l.fn.marks (row l.fn.children);
  marks : all_behind l.children l.child-index l.marks ≡ behind_row l.fn.marks (row l.fn.children);
  small : size_of (row (drop l.child-index l.children)) ≤ size_of (row l.fn.children);
}
