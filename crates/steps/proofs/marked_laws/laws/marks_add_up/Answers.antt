use Rattle.steps.proofs.Marked.Places.{marks_joined}
use Rattle.steps.proofs.marked_laws.laws.marks_add_up.Goals as goal

pub returns : goal.returns
returns c = marks_joined
