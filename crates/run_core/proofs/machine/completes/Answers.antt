use Rattle.std.proofs.Common.{◌∙◌, ap}
use Rattle.std.proofs.lemmas.Result.{IfOk-weaker}
use Rattle.run_world.specs.World.{completion_of}
use Rattle.run_plan.specs.Taken.{taken}
use Rattle.run_core.proofs.Steps.{popped, behind_all}
use Rattle.run_core.proofs.machine.completes.Goals as goal

pub returns-in-Some : goal.returns-in-Some
returns-in-Some c = record {
  does = IfOk-weaker c.resumes.result _ _ (λ s h. popped c.args.world.now c.args.frames.now.items c.take_nearest.new.frames.items c.in-Some.frame (completion_of c.args.completion) (c.take_nearest.ensures ∙ ap (taken c.take_nearest.new.frames.items) c.in-Some.is) ∙ h) c.resumes.ensures.does;
}

pub returns-in-None : goal.returns-in-None
returns-in-None c = record {
  does = behind_all c.args.world.now c.args.frames.now.items (completion_of c.args.completion) (c.take_nearest.ensures ∙ ap (taken c.take_nearest.new.frames.items) c.in-None.is);
}
