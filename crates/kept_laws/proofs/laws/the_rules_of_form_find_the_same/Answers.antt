use Rattle.steps.proofs.VarNames.Alike.{found_alike}
use Rattle.kept_laws.proofs.laws.the_rules_of_form_find_the_same.Goals as goal

pub returns : goal.returns
returns c = found_alike
