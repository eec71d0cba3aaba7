use Rattle.std.proofs.Common.{◌≡◌, drop}
use Rattle.js_syntax.specs.Node.{row}
use Rattle.min_imports.specs.Items.{has_nameless}
use Rattle.min_imports.proofs.repeated.has_nameless.Given as goal

abbrev pub invariant-loop-item : goal.invariant-loop-item
invariant-loop-item l = has_nameless (row l.items) ≡ has_nameless (row (drop l.item-index l.items))
