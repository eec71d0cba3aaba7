use Rattle.test_run_definitions.proofs.Runs.{own_name_written as computed}
use Rattle.test_run_definitions.proofs.computed.own_name_written.Goals as goal

pub returns : goal.returns
returns c = computed
