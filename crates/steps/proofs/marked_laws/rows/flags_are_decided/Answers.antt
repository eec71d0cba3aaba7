use Rattle.steps.proofs.Marked.Deciding.{decided}
use Rattle.steps.proofs.marked_laws.rows.flags_are_decided.Goals as goal

pub returns : goal.returns
returns c = decided
