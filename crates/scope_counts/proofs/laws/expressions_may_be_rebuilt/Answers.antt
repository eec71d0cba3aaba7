use Rattle.scope_counts.specs.Counts.{by_id}
use Rattle.scope_counts.proofs.Rebuilding.{operation_is_plain, rebuilt_tally, rebuilt_thins, rebuilt_loses}
use Rattle.scope_counts.proofs.Stays.{exact_rebuilt}
use Rattle.scope_counts.proofs.laws.expressions_may_be_rebuilt.Goals as goal

pub returns : goal.returns
returns c = record {
  tables = exact_rebuilt;
  thins = λ gone k l i j b c r rebuilt. rebuilt_thins gone k l i j b c r rebuilt;
  outward = λ gone k l i j b c r rebuilt. rebuilt_loses gone k l i j b c r rebuilt;
  ids = λ r t u rebuilt. rebuilt_tally (by_id r) rebuilt;
  kinds = operation_is_plain;
}
