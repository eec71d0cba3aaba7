use Rattle.std.proofs.Common.{◌≡◌, drop}
use Rattle.form_rules.specs.Rules.{has_label}
use Rattle.form_context.proofs.context.has_label.Given as goal

abbrev pub invariant-loop-label : goal.invariant-loop-label
invariant-loop-label l = has_label l.name (drop l.label-index l.labels) ≡ has_label l.name l.labels
