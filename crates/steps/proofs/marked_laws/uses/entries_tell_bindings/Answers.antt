use Rattle.steps.proofs.Marked.Referring.{entries_tell}
use Rattle.steps.proofs.marked_laws.uses.entries_tell_bindings.Goals as goal

pub returns : goal.returns
returns c = entries_tell
