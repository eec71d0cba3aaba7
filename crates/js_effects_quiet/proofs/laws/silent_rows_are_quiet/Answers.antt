use Rattle.js_effects_quiet.proofs.Silent.{quiet_row}
use Rattle.js_effects_quiet.proofs.laws.silent_rows_are_quiet.Goals as goal

pub returns : goal.returns
returns c = quiet_row
