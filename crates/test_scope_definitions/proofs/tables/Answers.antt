use Rattle.std.proofs.Common.{refl}
use Rattle.test_scope_definitions.proofs.tables.Goals as goal

pub returns : goal.returns
returns c = (refl, (refl, (refl, (refl, tt))))
