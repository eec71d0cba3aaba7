use Rattle.run_plan.proofs.Law.{pops}
use Rattle.run_plan.proofs.laws.popping_a_frame.Goals as goal

pub returns : goal.returns
returns c = pops
