use Rattle.js_effects_quiet.proofs.Taken.{taken}
use Rattle.js_effects_quiet.proofs.laws.what_is_taken_does_not_act.Goals as goal

pub returns : goal.returns
returns c = taken
