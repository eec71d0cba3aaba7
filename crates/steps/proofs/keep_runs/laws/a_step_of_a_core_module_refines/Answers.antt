use Rattle.steps.proofs.KeepRuns.Whole.{module_once}
use Rattle.steps.proofs.keep_runs.laws.a_step_of_a_core_module_refines.Goals as goal

pub returns : goal.returns
returns c = module_once
