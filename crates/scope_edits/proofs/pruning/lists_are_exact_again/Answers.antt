use Rattle.scope_edits.proofs.Pruned.{exact_again}
use Rattle.scope_edits.proofs.pruning.lists_are_exact_again.Goals as goal

pub returns : goal.returns
returns c = exact_again
