use Rattle.steps.proofs.Allowed.Composing.{tree_edits_are_edits}
use Rattle.steps.proofs.allowed_laws.laws.edits_of_a_tree_are_edits.Goals as goal

pub returns : goal.returns
returns c t u s = tree_edits_are_edits s
