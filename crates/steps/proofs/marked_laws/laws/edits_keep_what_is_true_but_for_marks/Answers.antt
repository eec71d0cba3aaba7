use Rattle.steps.proofs.Marked.Tables.{edits_keep_marked}
use Rattle.steps.proofs.marked_laws.laws.edits_keep_what_is_true_but_for_marks.Goals as goal

pub returns : goal.returns
returns c = edits_keep_marked
