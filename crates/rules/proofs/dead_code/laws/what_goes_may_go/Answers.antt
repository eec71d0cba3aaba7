use Rattle.rules.proofs.DeadCode.Trimming.{list_trims}
use Rattle.rules.proofs.dead_code.laws.what_goes_may_go.Goals as goal

pub returns : goal.returns
returns c = list_trims
