use Rattle.test_run_definitions.proofs.Runs.{others_have_properties as computed}
use Rattle.test_run_definitions.proofs.computed.others_have_properties.Goals as goal

pub returns : goal.returns
returns c = computed
