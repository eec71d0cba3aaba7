use Rattle.steps.proofs.Owed.MergedForm.{merged_well_formed}
use Rattle.steps.proofs.owed_laws.merged.merged_imports_keep_form.Goals as goal

pub returns : goal.returns
returns c = merged_well_formed
