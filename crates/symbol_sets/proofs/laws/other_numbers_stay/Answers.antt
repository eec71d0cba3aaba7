use Rattle.std.proofs.Common.{true, false}
use Rattle.std.proofs.lemmas.List.{get_or-set_other}
use Rattle.symbol_sets.proofs.laws.other_numbers_stay.Goals as goal

pub returns : goal.returns
returns c = record { putting_in = λ set m n h. get_or-set_other set n m true false h; taking_out = λ set m n h. get_or-set_other set n m false false h }
