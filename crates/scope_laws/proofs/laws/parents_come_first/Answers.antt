use Rattle.scope_laws.proofs.Parents.{parents_first}
use Rattle.scope_laws.proofs.laws.parents_come_first.Goals as goal

pub returns : goal.returns
returns c = λ t. parents_first t
