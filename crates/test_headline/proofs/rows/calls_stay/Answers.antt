use Rattle.std.proofs.Common.{refl}
use Rattle.test_headline.proofs.Refused.{call_shown}
use Rattle.test_headline.proofs.rows.calls_stay.Goals as goal

pub returns : goal.returns
returns c = record { kept = call_shown; refused = λ h. call_shown (h.kept refl) }
