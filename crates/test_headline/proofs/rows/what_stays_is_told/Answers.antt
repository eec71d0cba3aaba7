use Rattle.std.proofs.Common.{refl}
use Rattle.test_headline.proofs.Dead.{import_is_unused}
use Rattle.test_headline.proofs.rows.what_stays_is_told.Goals as goal

pub returns : goal.returns
returns c = record { twice = refl; once = refl; never = refl; both = refl; one = refl; unused = import_is_unused }
