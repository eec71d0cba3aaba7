use Rattle.std.proofs.Common.{refl, arith}
use Rattle.symbol_sets.proofs.Listed.{few}
use Rattle.symbol_sets.proofs.ones.Ones.of.Goals as goal

pub returns : goal.returns
returns g c = record { numbers = refl; few = Prim.omega (arith, few (g.S.SymbolSet.held c.args.set.now), c.capacity-end.ensures.capacity, c.capacity-end.type_inv) }
