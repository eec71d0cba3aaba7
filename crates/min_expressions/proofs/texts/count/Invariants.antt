use Rattle.std.proofs.Common.{◌≡◌, ◌+◌, ◌≤◌, drop}
use Rattle.js_syntax.specs.Node.{row}
use Rattle.form_rules.specs.Rules.{length_of}
use Rattle.min_expressions.proofs.texts.count.Given as goal

abbrev pub invariant-loop-node : goal.invariant-loop-node
invariant-loop-node l = record {
  all : l.length + length_of (row (drop l.node-index l.nodes)) ≡ length_of (row l.nodes);
  few : l.length ≤ l.node-index;
}
