use Rattle.min_imports.proofs.Going.{So}
use Rattle.min_imports.proofs.passing.plan.Given as goal

abbrev pub invariant-loop-item : goal.invariant-loop-item
invariant-loop-item l = So l.uses l.items l.item-index l.ended l.binders l.staying.items l.changed.items
