use Rattle.steps.proofs.Naming.Assigning.{nothing_assigns}
use Rattle.steps.proofs.naming_laws.laws.names_without_assignments_are_only_read.Goals as goal

pub returns : goal.returns
returns c = nothing_assigns
