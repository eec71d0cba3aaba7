use Rattle.std.proofs.Common.{refl}
use Rattle.test_headline.proofs.Refused.{receiver_shown}
use Rattle.test_headline.proofs.rows.receivers_stay_away.Goals as goal

pub returns : goal.returns
returns c = record { kept = receiver_shown; refused = λ h. receiver_shown (h.kept refl) }
