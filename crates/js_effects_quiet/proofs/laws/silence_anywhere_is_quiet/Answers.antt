use Rattle.std.proofs.Common.{true≢false}
use Rattle.js_effects.specs.Silence.{anywhere}
use Rattle.js_effects_quiet.proofs.Silent.{quiet_row}
use Rattle.js_effects_quiet.proofs.Marks.{silent_row}
use Rattle.js_effects_quiet.proofs.laws.silence_anywhere_is_quiet.Goals as goal

pub returns : goal.returns
returns c bound env E t e = quiet_row env E t (silent_row bound anywhere env (λ w. absurd (true≢false w)) t e (λ w. absurd (true≢false w)))
