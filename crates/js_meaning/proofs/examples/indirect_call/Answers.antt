use Rattle.js_meaning.proofs.Computes.{indirect_call as computed}
use Rattle.js_meaning.proofs.examples.indirect_call.Goals as goal

pub returns : goal.returns
returns c = computed
