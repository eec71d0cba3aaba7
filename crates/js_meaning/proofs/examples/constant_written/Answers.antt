use Rattle.js_meaning.proofs.Computes.{constant_written as computed}
use Rattle.js_meaning.proofs.examples.constant_written.Goals as goal

pub returns : goal.returns
returns c = computed
