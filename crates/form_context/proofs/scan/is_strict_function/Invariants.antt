use Rattle.std.proofs.Common.{◌≡◌, drop}
use Rattle.js_syntax.specs.Node.{row}
use Rattle.form_rules.specs.Context.{is_strict_function}
use Rattle.form_context.proofs.scan.is_strict_function.Given as goal

abbrev pub invariant-loop-node : goal.invariant-loop-node
invariant-loop-node l = is_strict_function (row (drop l.node-index l.nodes)) ≡ is_strict_function (row l.nodes)
