use Rattle.steps.proofs.Allowed.Tried.{call_acts, name_acts}
use Rattle.steps.proofs.allowed_laws.rows.calls_stay.Goals as goal

pub returns : goal.returns
returns c = record { call = call_acts; name = name_acts }
