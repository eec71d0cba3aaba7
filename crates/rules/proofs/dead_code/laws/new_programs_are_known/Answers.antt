use Rattle.rules.proofs.DeadCode.New.{new_known}
use Rattle.rules.proofs.dead_code.laws.new_programs_are_known.Goals as goal

pub returns : goal.returns
returns c = new_known
