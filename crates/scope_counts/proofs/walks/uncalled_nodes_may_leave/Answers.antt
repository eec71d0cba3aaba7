use Rattle.scope_counts.proofs.Carrying.{calls_without, calls_with_part, one_gone}
use Rattle.scope_counts.proofs.walks.uncalled_nodes_may_leave.Goals as goal

pub returns : goal.returns
returns c = record { leaving = calls_without; parts = calls_with_part; one = one_gone }
