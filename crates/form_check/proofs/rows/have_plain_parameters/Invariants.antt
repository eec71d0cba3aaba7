use Rattle.std.proofs.Common.{◌≡◌, drop}
use Rattle.js_syntax.specs.Node.{row}
use Rattle.form_rules.specs.Rules.{have_plain_parameters}
use Rattle.form_check.proofs.rows.have_plain_parameters.Given as goal

abbrev pub invariant-loop-node : goal.invariant-loop-node
invariant-loop-node l = have_plain_parameters (row (drop l.node-index l.nodes)) ≡ have_plain_parameters (row l.nodes)
