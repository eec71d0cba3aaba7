use Rattle.js_meaning_near.proofs.Known.{exact_scope}
use Rattle.js_meaning_near.proofs.laws.a_constant_may_be_read.Goals as goal

pub returns : goal.returns
returns c = λ n m x p a b d s e t r. exact_scope n m x p a b d s e t r
