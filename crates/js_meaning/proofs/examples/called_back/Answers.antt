use Rattle.js_meaning.proofs.Computes.{called_back as computed}
use Rattle.js_meaning.proofs.examples.called_back.Goals as goal

pub returns : goal.returns
returns c = computed
