use Rattle.steps.proofs.Marked.Leaving.{told_first}
use Rattle.steps.proofs.marked_laws.decisions.new_tables_tell.Goals as goal

pub returns : goal.returns
returns c = told_first
