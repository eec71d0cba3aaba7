use Rattle.steps.proofs.Marked.Places.{left_by_leaving, left_by_row, left_by_becoming}
use Rattle.steps.proofs.marked_laws.laws.what_left_stood_at_the_place.Goals as goal

pub returns : goal.returns
returns c = record { leaves = left_by_leaving; rows = left_by_row; becomes = left_by_becoming }
