use Rattle.js_meaning.proofs.Computes.{keys_once as computed}
use Rattle.js_meaning.proofs.examples.keys_once.Goals as goal

pub returns : goal.returns
returns c = computed
