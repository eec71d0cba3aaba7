use Rattle.rules.proofs.Imports.Used.{no_unused_name}
use Rattle.rules.proofs.import_laws.laws.no_name_is_left_unused.Goals as goal

pub returns : goal.returns
returns c = no_unused_name
