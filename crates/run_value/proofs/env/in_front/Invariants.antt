use Rattle.std.proofs.Common.{◌≡◌, ◌∷◌, ◌++◌, map, drop}
use Rattle.run_value.specs.Name.{bound_of}
use Rattle.run_value.proofs.env.in_front.Given as goal

abbrev pub invariant-loop-bound : goal.invariant-loop-bound
invariant-loop-bound l =
    map bound_of l.all.items ++ map bound_of (drop l.bound-index l.names) ≡ bound_of l.fn.first ∷ map bound_of l.names
