use Rattle.std.proofs.Common.{◌≡◌, ◌+◌, ◌≤◌, min, max, drop}
use Rattle.js_syntax.specs.Node.{row}
use Rattle.js_tree.specs.Weight.{tree_size}
use Rattle.js_tree.specs.Count.{levels_at, lower}
use Rattle.js_tree.proofs.count.+levels_within.Given as goal

abbrev pub decreases-levels_within : goal.decreases-levels_within
decreases-levels_within l = tree_size l.node.now

abbrev pub invariant-loop-at : goal.invariant-loop-at
invariant-loop-at l = record {
  all : min (max l.deepest (levels_at (lower l.node.kind) l.at (row (drop l.at l.children)))) (l.left + 1) ≡ min (levels_at (lower l.node.kind) 0 l.node.below) (l.left + 1);
  few : l.deepest ≤ l.left + 1;
}
