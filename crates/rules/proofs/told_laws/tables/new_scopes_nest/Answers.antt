use Rattle.rules.proofs.Told.Nested.{new_nests}
use Rattle.rules.proofs.told_laws.tables.new_scopes_nest.Goals as goal

pub returns : goal.returns
returns c = new_nests
