use Rattle.std.proofs.Common.{◌≡◌, drop}
use Rattle.js_syntax.specs.Node.{row}
use Rattle.min_imports.specs.Merging.{has_import}
use Rattle.min_imports.proofs.merged.has_import.Given as goal

abbrev pub invariant-loop-item : goal.invariant-loop-item
invariant-loop-item l = has_import (row l.items) ≡ has_import (row (drop l.item-index l.items))
