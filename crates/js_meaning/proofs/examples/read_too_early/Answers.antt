use Rattle.js_meaning.proofs.Computes.{read_too_early as computed}
use Rattle.js_meaning.proofs.examples.read_too_early.Goals as goal

pub returns : goal.returns
returns c = computed
