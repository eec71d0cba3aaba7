use Rattle.js_effects_quiet.proofs.Quiet.{quiet_says}
use Rattle.js_effects_quiet.proofs.laws.quiet_only_allocates.Goals as goal

pub returns : goal.returns
returns c = quiet_says
