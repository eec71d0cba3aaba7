use Rattle.min_imports.proofs.Naming.{SoFar}
use Rattle.min_imports.proofs.passed.passed_all.Given as goal

abbrev pub invariant-loop-item : goal.invariant-loop-item
invariant-loop-item l = SoFar l.bound l.specifiers l.item-index l.passed.items
