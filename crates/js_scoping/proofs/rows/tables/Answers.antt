use Rattle.std.proofs.Common.{refl}
use Rattle.js_scoping.proofs.rows.tables.Goals as goal

pub returns : goal.returns
returns c = (refl, (refl, (refl, (refl, (refl, tt)))))
