use Rattle.std.proofs.Common.{◌≡◌, length}
use Rattle.run_script.specs.Script.{are_distinct}
use Rattle.run_script.specs.Held.{globals_of}
use Rattle.run_script.proofs.list.are_distinct.Given as goal

abbrev pub invariant-loop-rest : goal.invariant-loop-rest
invariant-loop-rest l = are_distinct (globals_of l.rest) ≡ are_distinct (globals_of l.globals)

abbrev pub decreases-loop-rest : goal.decreases-loop-rest
decreases-loop-rest l = length l.rest
