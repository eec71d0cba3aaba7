use Rattle.steps.proofs.VarNames.Stands.{stands_there}
use Rattle.kept_laws.proofs.laws.a_declaration_of_them_is_a_statement.Goals as goal

pub returns : goal.returns
returns c = stands_there
