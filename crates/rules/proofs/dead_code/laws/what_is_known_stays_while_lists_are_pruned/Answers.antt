use Rattle.rules.proofs.DeadCode.New.{pruned_known}
use Rattle.rules.proofs.dead_code.laws.what_is_known_stays_while_lists_are_pruned.Goals as goal

pub returns : goal.returns
returns c = pruned_known
