use Rattle.steps.proofs.Marked.Places.{rows_keep_marked}
use Rattle.steps.proofs.marked_laws.laws.edits_of_rows_keep_what_is_true_but_for_marks.Goals as goal

pub returns : goal.returns
returns c = rows_keep_marked
