use Rattle.std.proofs.Common.{refl}
use Rattle.js_effects_quiet.proofs.rows.other_forms.Goals as goal

pub returns : goal.returns
returns c = (refl, (refl, (refl, (refl, (refl, (refl, (refl, (refl, (refl, (refl, tt))))))))))
