use Rattle.run_world.specs.World.{completion_of}
use Rattle.run_plan.specs.Frame.{applies}
use Rattle.run_core.specs.Machine.{enter_fully}
use Rattle.run_core.proofs.Steps.{planned}
use Rattle.run_core.proofs.machine.resumes.Goals as goal

pub returns : goal.returns
returns c = record {
  does = planned c.args.world.now c.resume_frame.new.world c.args.frames.now.items c.push_plan.new.frames.items (applies enter_fully c.args.frame (completion_of c.args.completion)) c.in_ok-plan.plan c.in_ok-control.control.value (c.in_ok-plan.ensures.does enter_fully) (c.in_ok-control.ensures.onto enter_fully);
}
