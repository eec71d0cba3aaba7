use Rattle.min_imports.proofs.Planning.{So}
use Rattle.min_imports.proofs.merged.plan.Given as goal

abbrev pub invariant-loop-item : goal.invariant-loop-item
invariant-loop-item l = So l.items l.item-index l.ended l.sources l.staying.items l.changed.items
