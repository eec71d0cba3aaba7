use Rattle.std.proofs.Common.{refl}
use Rattle.scope_rules.proofs.rows.calls_of_eval.Goals as goal

pub returns : goal.returns
returns c = ((refl, refl, refl), ((refl, refl, refl), tt))
