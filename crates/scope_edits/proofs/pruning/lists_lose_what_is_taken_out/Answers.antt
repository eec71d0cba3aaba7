use Rattle.scope_edits.proofs.Pruned.{prunes}
use Rattle.scope_edits.proofs.pruning.lists_lose_what_is_taken_out.Goals as goal

pub returns : goal.returns
returns c = prunes
