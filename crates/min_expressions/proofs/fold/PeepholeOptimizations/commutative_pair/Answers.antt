use Rattle.min_expressions.proofs.Pairing.{taken, taken_swapped}
use Rattle.min_expressions.proofs.fold.PeepholeOptimizations.commutative_pair.Goals as goal

pub returns-in-Some : goal.returns-in-Some
returns-in-Some g c = record { pair = taken _ _ _ _ c.in-Some.a c.check_a.ensures c.in-Some.is c.check_b.ensures c.joined.ensures }

pub returns-in-Some-check_a : goal.returns-in-Some-check_a
returns-in-Some-check_a g c = record { pair = taken_swapped _ _ _ _ c.in-Some-check_a.a c.check_a.ensures c.in-None.is c.check_a-in-None.ensures c.in-Some-check_a.is c.check_b-in-Some-check_a.ensures c.joined-in-Some-check_a.ensures }
