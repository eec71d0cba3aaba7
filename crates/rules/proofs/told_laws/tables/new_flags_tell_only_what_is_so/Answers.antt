use Rattle.rules.proofs.Told.New.{new_told_only}
use Rattle.rules.proofs.told_laws.tables.new_flags_tell_only_what_is_so.Goals as goal

pub returns : goal.returns
returns c = new_told_only
