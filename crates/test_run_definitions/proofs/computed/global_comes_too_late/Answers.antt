use Rattle.test_run_definitions.proofs.Runs.{global_comes_too_late as computed}
use Rattle.test_run_definitions.proofs.computed.global_comes_too_late.Goals as goal

pub returns : goal.returns
returns c = computed
