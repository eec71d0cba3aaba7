use Rattle.steps.proofs.Marked.Leaving.{told_stays}
use Rattle.steps.proofs.marked_laws.decisions.edits_keep_what_is_told.Goals as goal

pub returns : goal.returns
returns c = told_stays
