use Rattle.std.proofs.Common.{refl}
use Rattle.steps.proofs.rows.what_is_referred_to.Goals as goal

pub returns : goal.returns
returns c = record { read_inside = refl; read_nowhere = refl; declared_again = refl; not_declared_again = refl; assigned = refl }
