use Rattle.steps.proofs.Owed.UnseenCounts.{unseen_leaves}
use Rattle.steps.proofs.owed_laws.tables.unseen_items_may_leave.Goals as goal

pub returns : goal.returns
returns c = unseen_leaves
