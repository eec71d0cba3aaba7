use Rattle.scope_laws.proofs.Exact.{exact}
use Rattle.scope_laws.proofs.laws.tables_are_exact.Goals as goal

pub returns : goal.returns
returns c = exact
