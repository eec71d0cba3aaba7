use Rattle.std.proofs.Common.{drop}
use Rattle.js_syntax.specs.Node.{row}
use Rattle.min_imports.proofs.Listing.{So}
use Rattle.min_imports.proofs.listed.listed_by.Given as goal

abbrev pub invariant-loop-item : goal.invariant-loop-item
invariant-loop-item l = So l.texts l.references (row (drop l.item-index l.specifiers)) (row l.specifiers)
