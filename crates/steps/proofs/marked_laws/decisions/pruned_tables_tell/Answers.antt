use Rattle.steps.proofs.Marked.Leaving.{told_pruned}
use Rattle.steps.proofs.marked_laws.decisions.pruned_tables_tell.Goals as goal

pub returns : goal.returns
returns c = told_pruned
