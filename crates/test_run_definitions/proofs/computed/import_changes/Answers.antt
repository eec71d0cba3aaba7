use Rattle.test_run_definitions.proofs.Runs.{import_changes as computed}
use Rattle.test_run_definitions.proofs.computed.import_changes.Goals as goal

pub returns : goal.returns
returns c = computed
