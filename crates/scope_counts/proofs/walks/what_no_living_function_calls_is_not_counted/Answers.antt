use Rattle.scope_counts.specs.Walks.{to_symbol, to_gone}
use Rattle.scope_counts.proofs.Callers.{none_living}
use Rattle.scope_counts.proofs.walks.what_no_living_function_calls_is_not_counted.Goals as goal

pub returns : goal.returns
returns c = record { symbol = λ dead s source n below rest. none_living dead (to_symbol s) source n below rest; gone = λ dead gone source n below rest. none_living dead (to_gone gone) source n below rest }
