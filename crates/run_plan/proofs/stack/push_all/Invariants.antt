use Rattle.std.proofs.Common.{◌≡◌, ◌++◌}
use Rattle.run_plan.proofs.stack.push_all.Given as goal

abbrev pub invariant-loop-other : goal.invariant-loop-other
invariant-loop-other l = l.frames.items ≡ l.fn.frames.items ++ l.yielded
