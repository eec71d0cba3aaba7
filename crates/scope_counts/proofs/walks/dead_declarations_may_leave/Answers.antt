use Rattle.scope_counts.proofs.Carrying.{living_without}
use Rattle.scope_counts.proofs.walks.dead_declarations_may_leave.Goals as goal

pub returns : goal.returns
returns c = living_without
