use Rattle.scope_counts.proofs.Carrying.{nothing_skipped}
use Rattle.scope_counts.proofs.walks.what_lives_is_counted.Goals as goal

pub returns : goal.returns
returns c = nothing_skipped
