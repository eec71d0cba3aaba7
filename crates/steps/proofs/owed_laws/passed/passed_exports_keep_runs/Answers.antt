use Rattle.steps.proofs.Owed.PassedSteps.{passed_refines}
use Rattle.steps.proofs.owed_laws.passed.passed_exports_keep_runs.Goals as goal

pub returns : goal.returns
returns c = passed_refines
