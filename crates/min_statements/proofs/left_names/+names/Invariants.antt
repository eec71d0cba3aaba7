use Rattle.std.proofs.Common.{◌≡◌, ◌≤◌, ◌+◌, ◌*◌, drop, map}
use Rattle.js_syntax.specs.Node.{row}
use Rattle.js_tree.specs.Weight.{size_of, tree_size}
use Rattle.js_tree.proofs.Sizes.{child_size}
use Rattle.min_statements.specs.LeftNames.{named_item}
use Rattle.min_statements.proofs.Kept.{changing}
use Rattle.min_statements.proofs.left_names.+names.Given as goal

abbrev pub decreases-name_inside : goal.decreases-name_inside
decreases-name_inside l = 4 * tree_size l.node.now

abbrev pub decreases-name_item : goal.decreases-name_item
decreases-name_item l = 4 * child_size l.item.now + 2

abbrev pub decreases-name_child : goal.decreases-name_child
decreases-name_child l = 4 * child_size l.child.now + 1

abbrev pub decreases-name_each : goal.decreases-name_each
decreases-name_each l = 4 * size_of (row l.items.now) + 3

abbrev pub invariant-name_each-loop-item : goal.invariant-name_each-loop-item
invariant-name_each-loop-item l = record {
  same : changing (named_item l.listed) l.items l.item-index ≡ map (named_item l.listed) l.fn.items;
  small : size_of (row (drop l.item-index l.items)) ≤ size_of (row l.fn.items);
}
