use Rattle.js_meaning_near.proofs.Instances.{local_change}
use Rattle.js_meaning_near.proofs.laws.a_local_change_refines.Goals as goal

pub returns : goal.returns
returns c = λ n m a b s y e t r. local_change n m a b s y e t r
