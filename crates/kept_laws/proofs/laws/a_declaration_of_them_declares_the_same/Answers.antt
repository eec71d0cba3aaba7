use Rattle.steps.proofs.VarNames.Again.{declared_again}
use Rattle.kept_laws.proofs.laws.a_declaration_of_them_declares_the_same.Goals as goal

pub returns : goal.returns
returns c = declared_again
