use Rattle.run_plan.proofs.Law.{pushes}
use Rattle.run_plan.proofs.laws.pushing_frames.Goals as goal

pub returns : goal.returns
returns c = pushes
