use Rattle.std.proofs.Common.{◌≡◌, ◌≤◌, ◌+◌, ◌*◌, drop, map}
use Rattle.js_syntax.specs.Node.{row}
use Rattle.js_tree.specs.Weight.{size_of, tree_size}
use Rattle.js_tree.proofs.Sizes.{child_size}
use Rattle.min_statements.specs.Untaken.{values_one}
use Rattle.min_statements.proofs.Kept.{changing}
use Rattle.min_statements.proofs.values.+zeroes.Given as goal

abbrev pub decreases-zero_values : goal.decreases-zero_values
decreases-zero_values l = 3 * tree_size l.node.now

abbrev pub decreases-zero_inside : goal.decreases-zero_inside
decreases-zero_inside l = 3 * child_size l.child.now + 1

abbrev pub decreases-zero_each : goal.decreases-zero_each
decreases-zero_each l = 3 * size_of (row l.parts.now) + 2

abbrev pub invariant-zero_each-loop-part : goal.invariant-zero_each-loop-part
invariant-zero_each-loop-part l = record {
  same : changing values_one l.parts l.part-index ≡ map values_one l.fn.parts;
  small : size_of (row (drop l.part-index l.parts)) ≤ size_of (row l.fn.parts);
}
