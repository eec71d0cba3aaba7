use Rattle.steps.proofs.VarNames.Weighs.{weighs_no_more}
use Rattle.kept_laws.proofs.laws.a_declaration_of_them_weighs_no_more.Goals as goal

pub returns : goal.returns
returns c = weighs_no_more
