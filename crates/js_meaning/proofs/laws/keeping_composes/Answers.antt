use Rattle.js_meaning.proofs.Kept.{kept_joined}
use Rattle.js_meaning.proofs.laws.keeping_composes.Goals as goal

pub returns : goal.returns
returns c = kept_joined
