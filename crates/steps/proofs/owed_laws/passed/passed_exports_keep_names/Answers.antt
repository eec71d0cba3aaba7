use Rattle.steps.proofs.Owed.PassedForm.{same_names_exported}
use Rattle.steps.proofs.owed_laws.passed.passed_exports_keep_names.Goals as goal

pub returns : goal.returns
returns c names r s z h = same_names_exported h
