use Rattle.steps.proofs.Marked.Referring.{unreferred}
use Rattle.steps.proofs.marked_laws.uses.what_lists_marked_ids_alone_is_unreferred.Goals as goal

pub returns : goal.returns
returns c = unreferred
