use Rattle.steps.proofs.Owed.Edited.{edit_lighter}
use Rattle.steps.proofs.owed_laws.edits.an_edit_leaves_less.Goals as goal

pub returns : goal.returns
returns c = edit_lighter
