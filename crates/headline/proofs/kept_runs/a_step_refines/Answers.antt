use Rattle.headline.proofs.Sound.{step_refines}
use Rattle.headline.proofs.kept_runs.a_step_refines.Goals as goal

pub returns : goal.returns
returns c t u s h g = (step_refines t u s h g).refined
