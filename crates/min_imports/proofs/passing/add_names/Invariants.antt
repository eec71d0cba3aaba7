use Rattle.min_imports.proofs.Binding.{Adding}
use Rattle.min_imports.proofs.passing.add_names.Given as goal

abbrev pub invariant-loop-name : goal.invariant-loop-name
invariant-loop-name l = Adding l.fn.binders l.names l.at l.name-index l.binders
