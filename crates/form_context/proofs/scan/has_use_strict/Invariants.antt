use Rattle.std.proofs.Common.{◌≡◌, drop}
use Rattle.js_syntax.specs.Node.{row}
use Rattle.form_rules.specs.Context.{has_use_strict}
use Rattle.form_context.proofs.scan.has_use_strict.Given as goal

abbrev pub invariant-loop-node : goal.invariant-loop-node
invariant-loop-node l = has_use_strict (row (drop l.node-index l.nodes)) ≡ has_use_strict (row l.nodes)
