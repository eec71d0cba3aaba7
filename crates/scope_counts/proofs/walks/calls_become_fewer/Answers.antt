use Rattle.scope_counts.proofs.Fewer.{exact_calls_without, exact_calls_with_part}
use Rattle.scope_counts.proofs.walks.calls_become_fewer.Goals as goal

pub returns : goal.returns
returns c = record { leaving = exact_calls_without; parts = exact_calls_with_part }
