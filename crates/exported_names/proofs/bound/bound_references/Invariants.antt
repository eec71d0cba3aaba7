use Rattle.std.proofs.Common.{◌≡◌}
use Rattle.exported_names.specs.Answers.{answers, is_bound}
use Rattle.exported_names.proofs.bound.bound_references.Given as goal

abbrev pub invariant-loop-number : goal.invariant-loop-number
invariant-loop-number l = l.bound.items ≡ answers (is_bound l.scoping) l.number
