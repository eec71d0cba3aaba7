use Rattle.js_meaning.proofs.Computes.{typeof_of_nothing as computed}
use Rattle.js_meaning.proofs.examples.typeof_of_nothing.Goals as goal

pub returns : goal.returns
returns c = computed
