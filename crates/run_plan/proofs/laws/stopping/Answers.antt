use Rattle.run_plan.proofs.Law.{stops_all}
use Rattle.run_plan.proofs.laws.stopping.Goals as goal

pub returns : goal.returns
returns c = stops_all
