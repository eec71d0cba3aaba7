use Rattle.steps.proofs.Marked.Shedding.{edits_shed}
use Rattle.steps.proofs.marked_laws.laws.edits_shed_references.Goals as goal

pub returns : goal.returns
returns c = edits_shed
