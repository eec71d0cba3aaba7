use Rattle.std.proofs.Common.{◌≡◌, drop}
use Rattle.js_syntax.specs.Node.{row}
use Rattle.min_imports.proofs.Lists.{has_other}
use Rattle.min_imports.proofs.names.are_names.Given as goal

abbrev pub invariant-loop-name : goal.invariant-loop-name
invariant-loop-name l = has_other (row l.names) ≡ has_other (row (drop l.name-index l.names))
