use Rattle.std.proofs.Common.{refl}
use Rattle.test_headline.proofs.Refused.{export_shown}
use Rattle.test_headline.proofs.rows.exports_stay.Goals as goal

pub returns : goal.returns
returns c = record { kept = export_shown; refused = λ h. export_shown (h.kept refl) }
