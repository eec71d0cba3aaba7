use Rattle.js_effects_quiet.proofs.Silent.{quiet_row}
use Rattle.steps.proofs.Silent.{silent_row}
use Rattle.steps.proofs.laws.what_may_not_act_is_quiet.Goals as goal

pub returns : goal.returns
returns c names env h E t e = quiet_row env E t (silent_row names env t h e)
