use Rattle.std.proofs.Common.{refl}
use Rattle.rules.proofs.told_laws.rows.bits_go_where_parents_lead.Goals as goal

pub returns : goal.returns
returns c = record { before = refl; refreshed = refl; by_its_own = refl }
