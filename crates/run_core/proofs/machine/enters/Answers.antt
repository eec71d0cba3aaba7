use Rattle.std.proofs.Common.{◌∙◌}
use Rattle.run_plan.specs.Ask.{task_of}
use Rattle.run_core.specs.Machine.{enter_fully}
use Rattle.run_core.proofs.Steps.{planned, entered}
use Rattle.run_core.proofs.machine.enters.Goals as goal

pub returns : goal.returns
returns c = record {
  does = planned c.args.world.now c.enter_task.new.world c.args.frames.now.items c.push_plan.new.frames.items (enter_fully (task_of c.args.task)) c.in_ok-plan.plan c.in_ok-control.control.value (entered c.args.world.now (task_of c.args.task) ∙ c.in_ok-plan.ensures.does enter_fully) (c.in_ok-control.ensures.onto enter_fully);
}
