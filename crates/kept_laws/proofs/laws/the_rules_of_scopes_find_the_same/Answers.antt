use Rattle.steps.proofs.VarNames.Sought.{found_law}
use Rattle.kept_laws.proofs.laws.the_rules_of_scopes_find_the_same.Goals as goal

pub returns : goal.returns
returns c = found_law
