use Rattle.js_effects_quiet.proofs.Silent.{quiet_row}
use Rattle.js_effects_quiet.proofs.Marks.{silent_row}
use Rattle.js_effects_quiet.proofs.laws.silence_is_quiet.Goals as goal

pub returns : goal.returns
returns c bound s env E t e h this = quiet_row env E t (silent_row bound s env this t e h)
