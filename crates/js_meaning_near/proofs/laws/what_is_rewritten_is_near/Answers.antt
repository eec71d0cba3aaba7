use Rattle.js_meaning_near.proofs.Rewritten.{rewritten_near}
use Rattle.js_meaning_near.proofs.laws.what_is_rewritten_is_near.Goals as goal

pub returns : goal.returns
returns c = λ w x f p st a b g h. rewritten_near st g h
