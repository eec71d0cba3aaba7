use Rattle.steps.proofs.VarNames.Formed.{breaks_none}
use Rattle.kept_laws.proofs.laws.a_declaration_of_them_breaks_no_rule.Goals as goal

pub returns : goal.returns
returns c = breaks_none
