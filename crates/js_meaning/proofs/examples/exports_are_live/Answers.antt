use Rattle.js_meaning.proofs.Computes.{exports_are_live as computed}
use Rattle.js_meaning.proofs.examples.exports_are_live.Goals as goal

pub returns : goal.returns
returns c = computed
