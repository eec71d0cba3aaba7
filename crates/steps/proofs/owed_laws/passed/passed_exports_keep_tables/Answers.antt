use Rattle.steps.proofs.Owed.PassedTables.{passed_keeps}
use Rattle.steps.proofs.owed_laws.passed.passed_exports_keep_tables.Goals as goal

pub returns : goal.returns
returns c = passed_keeps
