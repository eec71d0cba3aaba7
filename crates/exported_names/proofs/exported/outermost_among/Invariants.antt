use Rattle.std.proofs.Common.{◌≡◌}
use Rattle.exported_names.specs.Answers.{answers}
use Rattle.exported_names.specs.Exported.{is_exported}
use Rattle.exported_names.proofs.exported.outermost_among.Given as goal

abbrev pub invariant-loop-number : goal.invariant-loop-number
invariant-loop-number l = l.outermost.items ≡ answers (is_exported l.scoping l.marks) l.number
