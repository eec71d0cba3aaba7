use Rattle.steps.proofs.Allowed.TriedExpressions.{consequent_behind_test, alternate_behind_test, right_side_behind_test, unknown_test_follows_none, silent_test_follows_none, left_side_follows_none}
use Rattle.steps.proofs.allowed_laws.rows.parts_that_count_follow_tests_that_act.Goals as goal

pub returns : goal.returns
returns c = record { consequent = consequent_behind_test; alternate = alternate_behind_test; right_side = right_side_behind_test; unknown = unknown_test_follows_none; silent = silent_test_follows_none; left_side = left_side_follows_none }
