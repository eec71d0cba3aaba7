use Rattle.test_run_definitions.proofs.Runs.{host_asked as computed}
use Rattle.test_run_definitions.proofs.computed.host_asked.Goals as goal

pub returns : goal.returns
returns c = computed
