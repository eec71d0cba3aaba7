use Rattle.min_traverse.proofs.Joining.{unchanged_moves}
use Rattle.min_traverse.proofs.laws.hooks_may_look.Goals as goal

pub returns : goal.returns
returns g c = λ s s' k x kept. unchanged_moves kept
