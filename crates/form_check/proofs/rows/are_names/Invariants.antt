use Rattle.std.proofs.Common.{◌≡◌, drop}
use Rattle.js_syntax.specs.Node.{row}
use Rattle.form_rules.specs.Rules.{are_names}
use Rattle.form_check.proofs.rows.are_names.Given as goal

abbrev pub invariant-loop-node : goal.invariant-loop-node
invariant-loop-node l = are_names (row (drop l.node-index l.nodes)) ≡ are_names (row l.nodes)
