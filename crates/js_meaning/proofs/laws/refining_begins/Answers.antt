use Rattle.js_meaning.proofs.Kept.{refined_same}
use Rattle.js_meaning.proofs.laws.refining_begins.Goals as goal

pub returns : goal.returns
returns c = refined_same
