use Rattle.std.proofs.Common.{◌≡◌, ◌+◌, drop}
use Rattle.js_syntax.specs.Node.{row}
use Rattle.js_tree.specs.Weight.{size_of}
use Rattle.js_tree.specs.Count.{node_count}
use Rattle.js_tree.proofs.count.+place_behind.Given as goal

abbrev pub decreases-place_behind : goal.decreases-place_behind
decreases-place_behind l = size_of (row l.nodes.now)

abbrev pub invariant-loop-node : goal.invariant-loop-node
invariant-loop-node l = l.next + node_count (row (drop l.node-index l.nodes)) ≡ l.place + node_count (row l.nodes)
