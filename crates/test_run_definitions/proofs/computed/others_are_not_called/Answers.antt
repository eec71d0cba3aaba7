use Rattle.test_run_definitions.proofs.Runs.{others_are_not_called as computed}
use Rattle.test_run_definitions.proofs.computed.others_are_not_called.Goals as goal

pub returns : goal.returns
returns c = computed
