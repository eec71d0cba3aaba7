use Rattle.scope_counts.proofs.Stays.{exact_emptied}
use Rattle.scope_counts.proofs.laws.nodes_may_become_empty.Goals as goal

pub returns : goal.returns
returns c = exact_emptied
