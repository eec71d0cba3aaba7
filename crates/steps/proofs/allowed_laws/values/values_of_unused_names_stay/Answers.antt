use Rattle.steps.proofs.Allowed.TriedValues.{var_stays, let_stays, const_stays, in_code_stays}
use Rattle.steps.proofs.allowed_laws.values.values_of_unused_names_stay.Goals as goal

pub returns : goal.returns
returns c = record { var = var_stays; let_ = let_stays; const_ = const_stays; in_code = in_code_stays }
