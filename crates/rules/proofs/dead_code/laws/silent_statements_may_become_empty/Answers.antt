use Rattle.rules.proofs.DeadCode.Emptying.{statement_empties_there}
use Rattle.rules.proofs.dead_code.laws.silent_statements_may_become_empty.Goals as goal

pub returns : goal.returns
returns c = statement_empties_there
