use Rattle.known_tests.proofs.Taken.{right_counts, left_decides}
use Rattle.known_tests.proofs.laws.a_side_is_taken.Goals as goal

pub returns : goal.returns
returns r = record { right = right_counts; left = left_decides }
