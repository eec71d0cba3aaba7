use Rattle.headline.proofs.Once.{module_once}
use Rattle.headline.proofs.kept_runs.a_step_is_once.Goals as goal

pub returns : goal.returns
returns c = module_once
