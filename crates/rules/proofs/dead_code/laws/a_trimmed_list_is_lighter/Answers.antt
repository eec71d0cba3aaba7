use Rattle.rules.proofs.DeadCode.Lighter.{trimmed_is_lighter, trimmed_is_same, trimmed_sheds, trimmed_is_alive}
use Rattle.rules.proofs.dead_code.laws.a_trimmed_list_is_lighter.Goals as goal

pub returns : goal.returns
returns c = record { lighter = trimmed_is_lighter; same = trimmed_is_same; references = trimmed_sheds; alive = trimmed_is_alive }
