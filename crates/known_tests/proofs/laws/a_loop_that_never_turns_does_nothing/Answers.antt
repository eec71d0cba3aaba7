use Rattle.known_tests.proofs.Taken.{while_does_nothing, for_does_nothing}
use Rattle.known_tests.proofs.laws.a_loop_that_never_turns_does_nothing.Goals as goal

pub returns : goal.returns
returns r = record { while_loop = while_does_nothing; for_loop = for_does_nothing }
