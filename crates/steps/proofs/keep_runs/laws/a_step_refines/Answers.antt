use Rattle.steps.proofs.KeepRuns.Modules.{module_step}
use Rattle.steps.proofs.keep_runs.laws.a_step_refines.Goals as goal

pub returns : goal.returns
returns c = module_step
