use Rattle.steps.proofs.KeepRuns.Many.{module_many}
use Rattle.steps.proofs.keep_runs.laws.steps_of_a_core_module_refine.Goals as goal

pub returns : goal.returns
returns c = module_many
