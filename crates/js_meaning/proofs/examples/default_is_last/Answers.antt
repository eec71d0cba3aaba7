use Rattle.js_meaning.proofs.Computes.{default_is_last as computed}
use Rattle.js_meaning.proofs.examples.default_is_last.Goals as goal

pub returns : goal.returns
returns c = computed
