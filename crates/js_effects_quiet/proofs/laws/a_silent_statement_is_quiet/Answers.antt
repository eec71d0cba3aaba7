use Rattle.js_effects_quiet.proofs.Silent.{quiet_statement}
use Rattle.js_effects_quiet.proofs.Marks.{silent_row}
use Rattle.js_effects_quiet.proofs.laws.a_silent_statement_is_quiet.Goals as goal

pub returns : goal.returns
returns c bound s env E a ls e h this = quiet_statement env E a ls (silent_row bound s env this a e h)
