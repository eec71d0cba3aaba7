use Rattle.known_tests.proofs.Taken.{condition_holds, condition_fails}
use Rattle.known_tests.proofs.laws.a_branch_is_taken.Goals as goal

pub returns : goal.returns
returns r = record { holds = condition_holds; fails = condition_fails }
