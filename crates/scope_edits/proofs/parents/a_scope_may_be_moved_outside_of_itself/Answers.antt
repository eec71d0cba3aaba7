use Rattle.scope_edits.proofs.Moved.{moved}
use Rattle.scope_edits.proofs.parents.a_scope_may_be_moved_outside_of_itself.Goals as goal

pub returns : goal.returns
returns c = moved
