use Rattle.exported_names.proofs.New.{known, only}
use Rattle.exported_names.proofs.laws.new_programs_are_known_by_what_is_answered.Goals as goal

pub returns : goal.returns
returns c = record { known = known; only = only }
