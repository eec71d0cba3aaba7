use Rattle.std.proofs.Common.{true, false}
use Rattle.std.proofs.lemmas.List.{get_or_past, set_past}
use Rattle.symbol_sets.proofs.laws.nothing_is_past_the_capacity.Goals as goal

pub returns : goal.returns
returns c = record { held = λ set n h. get_or_past set n false h; putting_in = λ set n h. set_past set n true h; taking_out = λ set n h. set_past set n false h }
