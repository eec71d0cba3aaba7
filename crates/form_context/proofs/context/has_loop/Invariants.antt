use Rattle.std.proofs.Common.{◌≡◌, drop}
use Rattle.form_rules.specs.Rules.{has_loop}
use Rattle.form_context.proofs.context.has_loop.Given as goal

abbrev pub invariant-loop-label : goal.invariant-loop-label
invariant-loop-label l = has_loop l.name (drop l.label-index l.labels) ≡ has_loop l.name l.labels
