use Rattle.js_meaning.proofs.Computes.{member_call as computed}
use Rattle.js_meaning.proofs.examples.member_call.Goals as goal

pub returns : goal.returns
returns c = computed
