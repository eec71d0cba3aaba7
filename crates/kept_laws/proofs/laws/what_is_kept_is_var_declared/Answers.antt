use Rattle.steps.proofs.VarNames.Statements.{statement_law}
use Rattle.kept_laws.proofs.laws.what_is_kept_is_var_declared.Goals as goal

pub returns : goal.returns
returns c = statement_law
