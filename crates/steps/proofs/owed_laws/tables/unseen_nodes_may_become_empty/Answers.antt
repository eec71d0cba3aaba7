use Rattle.steps.proofs.Owed.UnseenCounts.{unseen_empties}
use Rattle.steps.proofs.owed_laws.tables.unseen_nodes_may_become_empty.Goals as goal

pub returns : goal.returns
returns c = unseen_empties
