use Rattle.js_effects_quiet.proofs.Acts.{quiet_acts, quiet_acting_statement}
use Rattle.js_effects_quiet.proofs.laws.what_does_not_act_is_quiet.Goals as goal

pub returns : goal.returns
returns c = record { row = quiet_acts; statement = quiet_acting_statement }
