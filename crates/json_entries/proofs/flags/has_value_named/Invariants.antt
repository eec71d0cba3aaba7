use Rattle.std.proofs.Common.{◌≡◌, drop}
use Rattle.js_syntax.specs.Node.{row}
use Rattle.js_syntax.specs.Hint.{has_value_named}
use Rattle.json_entries.proofs.flags.has_value_named.Given as goal

abbrev pub invariant-loop-child : goal.invariant-loop-child
invariant-loop-child l = has_value_named l.name (row l.children) ≡ has_value_named l.name (row (drop l.child-index l.children))
