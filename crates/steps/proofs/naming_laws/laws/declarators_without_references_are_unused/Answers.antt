use Rattle.steps.proofs.Naming.Unused.{declarator_unused}
use Rattle.steps.proofs.naming_laws.laws.declarators_without_references_are_unused.Goals as goal

pub returns : goal.returns
returns c = declarator_unused
