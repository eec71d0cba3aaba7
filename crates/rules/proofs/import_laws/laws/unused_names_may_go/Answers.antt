use Rattle.rules.proofs.Imports.Pruning.{import_prunes}
use Rattle.rules.proofs.import_laws.laws.unused_names_may_go.Goals as goal

pub returns : goal.returns
returns c = import_prunes
