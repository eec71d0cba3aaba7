use Rattle.test_run_definitions.proofs.Runs.{continue_through_finally as computed}
use Rattle.test_run_definitions.proofs.computed.continue_through_finally.Goals as goal

pub returns : goal.returns
returns c = computed
