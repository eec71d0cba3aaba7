use Rattle.std.proofs.Common.{refl}
use Rattle.test_headline.proofs.Refused.{loop_stays}
use Rattle.test_headline.proofs.rows.endless_loops_stay.Goals as goal

pub returns : goal.returns
returns c = record { back = loop_stays; refused = λ h. loop_stays (h.back refl) }
