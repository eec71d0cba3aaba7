use Rattle.steps.proofs.Naming.Unused.{import_unused}
use Rattle.steps.proofs.naming_laws.laws.imported_names_without_references_are_unused.Goals as goal

pub returns : goal.returns
returns c = import_unused
