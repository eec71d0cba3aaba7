use Rattle.steps.proofs.VarNames.Anew.{declared_in_layers}
use Rattle.kept_laws.proofs.laws.a_declaration_of_them_declares_in_the_same_layers.Goals as goal

pub returns : goal.returns
returns c = declared_in_layers
