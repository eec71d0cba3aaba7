use Rattle.std.proofs.Common.{true, false}
use Rattle.std.proofs.lemmas.List.{length-set, length-replicate}
use Rattle.symbol_sets.proofs.laws.capacities_stay.Goals as goal

pub returns : goal.returns
returns c = record { putting_in = λ set n. length-set set n true; taking_out = λ set n. length-set set n false; cleared = λ capacity. length-replicate capacity false }
