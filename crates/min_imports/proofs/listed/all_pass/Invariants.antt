use Rattle.std.proofs.Common.{◌≡◌, drop}
use Rattle.js_syntax.specs.Node.{row}
use Rattle.min_imports.specs.Passing.{fails}
use Rattle.min_imports.proofs.listed.all_pass.Given as goal

abbrev pub invariant-loop-item : goal.invariant-loop-item
invariant-loop-item l = fails l.uses (row l.listed.specifiers.now) (row l.names) ≡ fails l.uses (row l.listed.specifiers.now) (row (drop l.item-index l.names))
