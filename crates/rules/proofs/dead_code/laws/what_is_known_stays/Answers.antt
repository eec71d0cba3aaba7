use Rattle.rules.proofs.DeadCode.Keeping.{keeps}
use Rattle.rules.proofs.dead_code.laws.what_is_known_stays.Goals as goal

pub returns : goal.returns
returns c = keeps
