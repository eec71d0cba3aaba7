use Rattle.steps.proofs.Allowed.Composing.{tree_edits_compose}
use Rattle.steps.proofs.allowed_laws.laws.edits_of_a_tree_compose.Goals as goal

pub returns : goal.returns
returns c t u v s r = tree_edits_compose s r
