use Rattle.std.proofs.Common.{◌≡◌}
use Rattle.js_meaning.specs.Run.{seen}
use Rattle.run_world.specs.World.{at}
use Rattle.run_plan.specs.Frame.{plans}
use Rattle.run_core.specs.Machine.{enter_fully, run_of}
use Rattle.run_core.proofs.machine.go_on.Given as goal

abbrev pub invariant-steps : goal.invariant-steps
invariant-steps l = seen (at l.fn.world (plans enter_fully l.fn.plan)) ≡ run_of l.world l.frames.items l.control.value
