use Rattle.test_run_definitions.proofs.Runs.{call_back_throws as computed}
use Rattle.test_run_definitions.proofs.computed.call_back_throws.Goals as goal

pub returns : goal.returns
returns c = computed
