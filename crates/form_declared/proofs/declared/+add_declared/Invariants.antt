use Rattle.std.proofs.Common.{◌≡◌, ◌+◌, ◌++◌, drop}
use Rattle.js_syntax.specs.Node.{row}
use Rattle.js_tree.specs.Weight.{size_of}
use Rattle.js_tree.specs.Count.{node_count}
use Rattle.form_rules.specs.Scope.{declared}
use Rattle.form_declared.proofs.declared.+add_declared.Given as goal

abbrev pub decreases-add_declared : goal.decreases-add_declared
decreases-add_declared l = size_of (row l.nodes.now)

abbrev pub invariant-loop-node : goal.invariant-loop-node
invariant-loop-node l = record {
  behind : l.next + node_count (row (drop l.node-index l.nodes)) ≡ l.place + node_count (row l.nodes);
  found : l.found.items ++ declared l.sought l.next (row (drop l.node-index l.nodes)) ≡ l.fn.found.items ++ declared l.sought l.place (row l.nodes);
}
