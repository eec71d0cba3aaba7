use Rattle.std.proofs.Common.{◌≡◌, ◌∷◌, ◌++◌, drop}
use Rattle.run_plan.specs.Held.{texts_of}
use Rattle.run_plan.proofs.held.in_front.Given as goal

abbrev pub invariant-loop-name : goal.invariant-loop-name
invariant-loop-name l = texts_of l.all.items ++ texts_of (drop l.name-index l.names) ≡ l.fn.first ∷ texts_of l.names
