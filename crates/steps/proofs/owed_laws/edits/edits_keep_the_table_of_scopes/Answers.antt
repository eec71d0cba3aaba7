use Rattle.steps.proofs.Owed.Edited.{tree_edits_keep}
use Rattle.steps.proofs.owed_laws.edits.edits_keep_the_table_of_scopes.Goals as goal

pub returns : goal.returns
returns c = tree_edits_keep
