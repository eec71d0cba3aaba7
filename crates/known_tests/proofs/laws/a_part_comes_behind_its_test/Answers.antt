use Rattle.known_tests.proofs.Taken.{consequent_behind, alternate_behind, right_side_behind}
use Rattle.known_tests.proofs.laws.a_part_comes_behind_its_test.Goals as goal

pub returns : goal.returns
returns c = record { holds = consequent_behind; fails = alternate_behind; right = right_side_behind }
