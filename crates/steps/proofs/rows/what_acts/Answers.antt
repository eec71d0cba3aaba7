use Rattle.std.proofs.Common.{refl}
use Rattle.steps.proofs.rows.what_acts.Goals as goal

pub returns : goal.returns
returns c = record { declared = refl; undeclared = refl; called = refl; literal = refl }
