use Rattle.js_meaning.proofs.Kept.{bind_adds}
use Rattle.js_meaning.proofs.laws.going_on_adds.Goals as goal

pub returns : goal.returns
returns c = bind_adds
