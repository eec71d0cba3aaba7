use Rattle.steps.proofs.Owed.MergedTables.{merged_keeps}
use Rattle.steps.proofs.owed_laws.merged.merged_imports_keep_tables.Goals as goal

pub returns : goal.returns
returns c = merged_keeps
