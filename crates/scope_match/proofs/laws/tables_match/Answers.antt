use Rattle.scope_match.proofs.Fresh.{fresh_matches}
use Rattle.scope_match.proofs.laws.tables_match.Goals as goal

pub returns : goal.returns
returns c = fresh_matches
