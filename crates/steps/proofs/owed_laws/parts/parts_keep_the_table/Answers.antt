use Rattle.steps.proofs.Owed.PartCounts.{parts_kept}
use Rattle.steps.proofs.owed_laws.parts.parts_keep_the_table.Goals as goal

pub returns : goal.returns
returns c = parts_kept
