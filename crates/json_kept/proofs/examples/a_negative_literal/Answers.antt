use Rattle.std.proofs.Common.{refl}
use Rattle.json_kept.proofs.Computed.{literal_read, literal_back}
use Rattle.json_kept.proofs.examples.a_negative_literal.Goals as goal

pub returns : goal.returns
returns c = record { read = literal_read; counted = refl; back = literal_back; signed = refl; source = refl; text = refl }
