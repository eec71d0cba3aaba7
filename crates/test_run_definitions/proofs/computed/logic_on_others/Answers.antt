use Rattle.test_run_definitions.proofs.Runs.{logic_on_others as computed}
use Rattle.test_run_definitions.proofs.computed.logic_on_others.Goals as goal

pub returns : goal.returns
returns c = computed
