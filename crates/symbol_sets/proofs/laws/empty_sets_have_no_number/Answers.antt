use Rattle.symbol_sets.proofs.Calls.{is_empty, cleared}
use Rattle.symbol_sets.proofs.laws.empty_sets_have_no_number.Goals as goal

pub returns : goal.returns
returns c = record { empty = is_empty; cleared = cleared }
