use Rattle.rules.proofs.DeadCode.Lighter.{emptied_is_lighter, emptied_sheds}
use Rattle.rules.proofs.dead_code.laws.an_emptied_statement_is_lighter.Goals as goal

pub returns : goal.returns
returns c = record { lighter = emptied_is_lighter; references = emptied_sheds }
