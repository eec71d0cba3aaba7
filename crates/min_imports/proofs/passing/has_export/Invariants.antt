use Rattle.std.proofs.Common.{◌≡◌, drop}
use Rattle.js_syntax.specs.Node.{row}
use Rattle.min_imports.specs.Passing.{has_export}
use Rattle.min_imports.proofs.passing.has_export.Given as goal

abbrev pub invariant-loop-item : goal.invariant-loop-item
invariant-loop-item l = has_export (row l.items) ≡ has_export (row (drop l.item-index l.items))
