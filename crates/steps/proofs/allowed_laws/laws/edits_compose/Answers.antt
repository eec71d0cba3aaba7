use Rattle.steps.proofs.Allowed.Composing.{edits_follow}
use Rattle.steps.proofs.allowed_laws.laws.edits_compose.Goals as goal

pub returns : goal.returns
returns c t u v s r = edits_follow s r
