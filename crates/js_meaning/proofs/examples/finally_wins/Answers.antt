use Rattle.js_meaning.proofs.Computes.{finally_wins as computed}
use Rattle.js_meaning.proofs.examples.finally_wins.Goals as goal

pub returns : goal.returns
returns c = computed
