use Rattle.test_run_definitions.proofs.Runs.{passed_on as computed}
use Rattle.test_run_definitions.proofs.computed.passed_on.Goals as goal

pub returns : goal.returns
returns c = computed
