use Rattle.steps.proofs.Naming.Unused.{declaration_unused}
use Rattle.steps.proofs.naming_laws.laws.declarations_without_references_are_unused.Goals as goal

pub returns : goal.returns
returns c = declaration_unused
