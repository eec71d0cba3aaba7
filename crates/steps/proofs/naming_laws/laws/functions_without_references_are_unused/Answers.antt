use Rattle.steps.proofs.Naming.Unused.{function_unused}
use Rattle.steps.proofs.naming_laws.laws.functions_without_references_are_unused.Goals as goal

pub returns : goal.returns
returns c = function_unused
