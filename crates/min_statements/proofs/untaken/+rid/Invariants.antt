use Rattle.std.proofs.Common.{◌≡◌, ◌≤◌, ◌+◌, ◌*◌, drop, map}
use Rattle.js_syntax.specs.Node.{row}
use Rattle.js_tree.specs.Weight.{size_of, tree_size}
use Rattle.js_tree.proofs.Sizes.{child_size}
use Rattle.min_statements.specs.Untaken.{rid_one}
use Rattle.min_statements.proofs.Kept.{changing}
use Rattle.min_statements.proofs.untaken.+rid.Given as goal

abbrev pub decreases-rid_inside : goal.decreases-rid_inside
decreases-rid_inside l = 3 * tree_size l.node.now

abbrev pub decreases-rid_child : goal.decreases-rid_child
decreases-rid_child l = 3 * child_size l.child.now + 1

abbrev pub decreases-rid_each : goal.decreases-rid_each
decreases-rid_each l = 3 * size_of (row l.items.now) + 2

abbrev pub invariant-rid_each-loop-item : goal.invariant-rid_each-loop-item
invariant-rid_each-loop-item l = record {
  same : changing rid_one l.items l.item-index ≡ map rid_one l.fn.items;
  small : size_of (row (drop l.item-index l.items)) ≤ size_of (row l.fn.items);
}
