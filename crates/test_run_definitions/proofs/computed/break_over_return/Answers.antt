use Rattle.test_run_definitions.proofs.Runs.{break_over_return as computed}
use Rattle.test_run_definitions.proofs.computed.break_over_return.Goals as goal

pub returns : goal.returns
returns c = computed
