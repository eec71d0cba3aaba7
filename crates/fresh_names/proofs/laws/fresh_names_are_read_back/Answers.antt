use Rattle.fresh_names.proofs.Fresh.{read_fresh}
use Rattle.fresh_names.proofs.laws.fresh_names_are_read_back.Goals as goal

pub returns : goal.returns
returns c = λ known taken name is. read_fresh name known is.counted
