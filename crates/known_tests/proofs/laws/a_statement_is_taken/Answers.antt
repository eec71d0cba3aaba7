use Rattle.known_tests.proofs.Taken.{statement_holds, statement_fails, statement_is_empty}
use Rattle.known_tests.proofs.laws.a_statement_is_taken.Goals as goal

pub returns : goal.returns
returns r = record { holds = statement_holds; fails = statement_fails; nothing_to_take = statement_is_empty }
