use Rattle.test_run_definitions.proofs.Runs.{old_value_first as computed}
use Rattle.test_run_definitions.proofs.computed.old_value_first.Goals as goal

pub returns : goal.returns
returns c = computed
