use Rattle.steps.proofs.Owed.PassedFits.{passed_fits}
use Rattle.steps.proofs.owed_laws.passed.passed_exports_keep_fitting.Goals as goal

pub returns : goal.returns
returns c = passed_fits
