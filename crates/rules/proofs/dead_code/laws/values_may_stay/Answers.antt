use Rattle.rules.proofs.DeadCode.Stating.{value_stays_there}
use Rattle.rules.proofs.dead_code.laws.values_may_stay.Goals as goal

pub returns : goal.returns
returns c = value_stays_there
