use Rattle.rules.proofs.DeadCode.Tried.{told_only}
use Rattle.rules.proofs.dead_code.rows.computing_shows_what_flags_tell_only.Goals as goal

pub returns : goal.returns
returns c = told_only
