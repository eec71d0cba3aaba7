use Rattle.std.proofs.Common.{◌≡◌, ◌∙◌, ap}
use Rattle.run_value.specs.Trace.{ending_of}
use Rattle.run_world.specs.declared.world.Reply.TheVariants.{Stops}
use Rattle.run_plan.specs.declared.plan.Control.TheVariants.{Reply}
use Rattle.run_core.specs.Machine.{run_of}
use Rattle.run_core.proofs.Steps.{stopped}
use Rattle.run_core.proofs.machine.next_step.Goals as goal

pub returns-in-Reply-Stops : goal.returns-in-Reply-Stops
returns-in-Reply-Stops c = record {
  does =
      let stops : c.args.control ≡ Reply (Stops c.in-Reply-Stops.ending) = cc in
      ap (run_of c.args.world.now c.args.frames.now.items) stops
      ∙ stopped c.args.world.now c.args.frames.now.items (ending_of c.in-Reply-Stops.ending);
}
