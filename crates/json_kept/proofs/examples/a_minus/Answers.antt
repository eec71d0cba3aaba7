use Rattle.std.proofs.Common.{refl}
use Rattle.json_kept.proofs.Computed.{minus_back}
use Rattle.json_kept.proofs.examples.a_minus.Goals as goal

pub returns : goal.returns
returns c = record { counted = refl; back = minus_back; text = refl }
