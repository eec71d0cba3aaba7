use Rattle.js_meaning.proofs.Computes.{cells_of_a_loop as computed}
use Rattle.js_meaning.proofs.examples.cells_of_a_loop.Goals as goal

pub returns : goal.returns
returns c = computed
