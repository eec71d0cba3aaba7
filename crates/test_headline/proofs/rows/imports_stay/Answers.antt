use Rattle.std.proofs.Common.{refl}
use Rattle.test_headline.proofs.Refused.{import_shown}
use Rattle.test_headline.proofs.rows.imports_stay.Goals as goal

pub returns : goal.returns
returns c = record { kept = import_shown; refused = λ h. import_shown (h.kept refl) }
