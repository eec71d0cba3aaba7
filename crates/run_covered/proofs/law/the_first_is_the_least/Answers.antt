use Rattle.run_covered.proofs.Laws.{the_least}
use Rattle.run_covered.proofs.law.the_first_is_the_least.Goals as goal

pub returns : goal.returns
returns c = the_least
