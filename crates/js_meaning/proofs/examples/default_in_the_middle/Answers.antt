use Rattle.js_meaning.proofs.Computes.{default_in_the_middle as computed}
use Rattle.js_meaning.proofs.examples.default_in_the_middle.Goals as goal

pub returns : goal.returns
returns c = computed
