use Rattle.scope_match.proofs.Leaves.{left_matches, left_is_not_exact}
use Rattle.scope_match.proofs.laws.left_over_symbols_may_list.Goals as goal

pub returns : goal.returns
returns c = record { matches = left_matches; not_exact = left_is_not_exact }
