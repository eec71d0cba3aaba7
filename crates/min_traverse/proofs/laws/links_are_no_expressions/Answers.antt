use Rattle.std.proofs.Common.{refl}
use Rattle.min_traverse.proofs.laws.links_are_no_expressions.Goals as goal

pub returns : goal.returns
returns c = record { chain = λ i k. refl; directive = λ i k. refl; method = λ b k. refl; property = λ k. refl; function = λ how pure. refl }
