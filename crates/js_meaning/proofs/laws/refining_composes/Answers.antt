use Rattle.js_meaning.proofs.Kept.{refined_joined}
use Rattle.js_meaning.proofs.laws.refining_composes.Goals as goal

pub returns : goal.returns
returns c = refined_joined
