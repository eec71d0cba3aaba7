use Rattle.scope_edits.proofs.Moved.{must_be_outside}
use Rattle.scope_edits.proofs.parents.and_nowhere_else.Goals as goal

pub returns : goal.returns
returns c = must_be_outside
