use Rattle.steps.proofs.Owed.Edited.{edit_sheds}
use Rattle.steps.proofs.owed_laws.edits.an_edit_sheds.Goals as goal

pub returns : goal.returns
returns c = edit_sheds
