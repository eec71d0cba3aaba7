use Rattle.rules_clean.proofs.Tried.{script_is_clean, script_is_not_quiet}
use Rattle.rules_clean.proofs.rows.what_is_not_so_takes_more.Goals as goal

pub returns : goal.returns
returns c = record { clean = script_is_clean; goes = script_is_not_quiet }
