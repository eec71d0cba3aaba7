use Rattle.steps.proofs.Allowed.Tried.{variable_goes, function_goes}
use Rattle.steps.proofs.allowed_laws.rows.what_is_free_goes.Goals as goal

pub returns : goal.returns
returns c = record { variable = variable_goes; function = function_goes }
