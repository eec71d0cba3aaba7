use Rattle.steps.proofs.Owed.MergedRuns.{module_merged}
use Rattle.steps.proofs.owed_laws.merged.merged_imports_keep_runs.Goals as goal

pub returns : goal.returns
returns c = module_merged
