use Rattle.scope_edits.proofs.Moved.{added}
use Rattle.scope_edits.proofs.parents.a_scope_may_be_added.Goals as goal

pub returns : goal.returns
returns c = added
