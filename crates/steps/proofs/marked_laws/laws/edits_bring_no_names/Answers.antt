use Rattle.steps.proofs.Marked.Shedding.{declared_before, referred_before}
use Rattle.steps.proofs.marked_laws.laws.edits_bring_no_names.Goals as goal

pub returns : goal.returns
returns c = record { declared = declared_before; referring = referred_before }
