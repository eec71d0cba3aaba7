use Rattle.steps.proofs.Allowed.Tried.{acting_test_stays}
use Rattle.steps.proofs.allowed_laws.rows.acting_tests_let_nothing_stand_alone.Goals as goal

pub returns : goal.returns
returns c = acting_test_stays
