use Rattle.std.proofs.Common.{refl}
use Rattle.test_headline.proofs.Refused.{function_called}
use Rattle.test_headline.proofs.rows.called_functions_stay.Goals as goal

pub returns : goal.returns
returns c = record { kept = function_called; refused = λ h. function_called (h.kept refl) }
