use Rattle.steps.proofs.Owed.MergedFits.{merged_fits}
use Rattle.steps.proofs.owed_laws.merged.merged_imports_keep_fitting.Goals as goal

pub returns : goal.returns
returns c = merged_fits
