use Rattle.min_peephole.proofs.Quieted.{quiet_clean}
use Rattle.min_peephole.proofs.laws.what_rules_leave_as_it_is_is_clean.Goals as goal

pub returns : goal.returns
returns c = quiet_clean
