use Rattle.run_plan.proofs.Law.{goes_on, goes_on_under}
use Rattle.run_plan.proofs.laws.going_on.Goals as goal

pub returns : goal.returns
returns c = record { bound = goes_on; under = goes_on_under }
