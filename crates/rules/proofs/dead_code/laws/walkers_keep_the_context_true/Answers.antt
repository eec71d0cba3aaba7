use Rattle.rules.proofs.DeadCode.StaysTrue.{stays}
use Rattle.rules.proofs.dead_code.laws.walkers_keep_the_context_true.Goals as goal

pub returns : goal.returns
returns g c = stays g.T.Traverse.edit
