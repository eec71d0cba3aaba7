use Rattle.test_run_definitions.proofs.Runs.{cells_of_the_head as computed}
use Rattle.test_run_definitions.proofs.computed.cells_of_the_head.Goals as goal

pub returns : goal.returns
returns c = computed
