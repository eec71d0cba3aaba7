use Rattle.std.proofs.Common.{◌≡◌, ◌++◌, ◌∷◌, drop}
use Rattle.js_meaning.specs.Module.{without}
use Rattle.run_names.specs.Held.{held}
use Rattle.run_names.proofs.module.in_front.Given as goal

abbrev pub invariant-loop-other : goal.invariant-loop-other
invariant-loop-other l = held l.found.items ++ without l.fn.first (held (drop l.other-index l.others)) ≡ l.fn.first ∷ without l.fn.first (held l.others)
