use Rattle.steps.proofs.Owed.PassedForm.{passed_well_formed}
use Rattle.steps.proofs.owed_laws.passed.passed_exports_keep_form.Goals as goal

pub returns : goal.returns
returns c = passed_well_formed
