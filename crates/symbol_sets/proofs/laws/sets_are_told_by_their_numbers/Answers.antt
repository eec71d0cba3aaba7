use Rattle.std.proofs.Common.{false}
use Rattle.std.proofs.lemmas.List.{ext_get_or}
use Rattle.symbol_sets.proofs.laws.sets_are_told_by_their_numbers.Goals as goal

pub returns : goal.returns
returns c = λ a b capacities same. ext_get_or false a b capacities (λ n below. same n)
