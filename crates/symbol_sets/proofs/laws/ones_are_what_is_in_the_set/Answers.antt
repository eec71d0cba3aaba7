use Rattle.symbol_sets.proofs.Listed.{members, rising, none, few}
use Rattle.symbol_sets.proofs.laws.ones_are_what_is_in_the_set.Goals as goal

pub returns : goal.returns
returns c = record { members = members; rising = rising; none = none; few = few }
