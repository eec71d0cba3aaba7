use Rattle.test_run_definitions.proofs.Runs.{constant_not_written as computed}
use Rattle.test_run_definitions.proofs.computed.constant_not_written.Goals as goal

pub returns : goal.returns
returns c = computed
