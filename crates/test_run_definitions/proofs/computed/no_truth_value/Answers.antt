use Rattle.test_run_definitions.proofs.Runs.{no_truth_value as computed}
use Rattle.test_run_definitions.proofs.computed.no_truth_value.Goals as goal

pub returns : goal.returns
returns c = computed
