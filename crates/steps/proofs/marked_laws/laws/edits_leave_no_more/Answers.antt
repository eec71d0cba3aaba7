use Rattle.steps.proofs.Marked.Shedding.{edit_weighs_less, edits_weigh_no_more}
use Rattle.steps.proofs.marked_laws.laws.edits_leave_no_more.Goals as goal

pub returns : goal.returns
returns c = record { one = edit_weighs_less; many = edits_weigh_no_more }
