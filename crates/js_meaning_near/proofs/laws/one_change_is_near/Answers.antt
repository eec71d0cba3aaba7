use Rattle.js_meaning_near.proofs.Once.{once_near}
use Rattle.js_meaning_near.proofs.laws.one_change_is_near.Goals as goal

pub returns : goal.returns
returns c = λ w p st a b o. once_near o
