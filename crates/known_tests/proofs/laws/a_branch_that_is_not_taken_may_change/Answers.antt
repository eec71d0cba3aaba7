use Rattle.known_tests.proofs.Taken.{consequent_changes, alternate_changes}
use Rattle.known_tests.proofs.laws.a_branch_that_is_not_taken_may_change.Goals as goal

pub returns : goal.returns
returns r = record { consequent = λ u st t n i a k b c d given field. consequent_changes t n i a k u st b c d given field; alternate = λ u st t n i j a k l b c d given. alternate_changes t n i a k u st b j l c d given }
