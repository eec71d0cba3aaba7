use Rattle.std.proofs.Common.{◌≡◌, ◌+◌, drop}
use Rattle.js_syntax.specs.Node.{row}
use Rattle.js_tree.specs.Weight.{size_of}
use Rattle.js_tree.specs.Count.{node_count}
use Rattle.run_covered.specs.Covered.{first_in}
use Rattle.run_covered.proofs.program.+look.Given as goal

abbrev pub decreases-look : goal.decreases-look
decreases-look l = size_of (row l.nodes.now)

abbrev pub invariant-loop-node : goal.invariant-loop-node
invariant-loop-node l =
    (l.next + node_count (row (drop l.node-index l.nodes)) ≡ l.place + node_count (row l.nodes))
    × (first_in l.next (row (drop l.node-index l.nodes)) ≡ first_in l.place (row l.nodes))
