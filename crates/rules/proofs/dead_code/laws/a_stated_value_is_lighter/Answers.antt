use Rattle.rules.proofs.DeadCode.Stating.{stated_is_lighter, stated_sheds}
use Rattle.rules.proofs.dead_code.laws.a_stated_value_is_lighter.Goals as goal

pub returns : goal.returns
returns c = record { lighter = stated_is_lighter; references = stated_sheds }
