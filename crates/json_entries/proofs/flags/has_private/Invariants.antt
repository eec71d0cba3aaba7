use Rattle.std.proofs.Common.{◌≡◌, drop}
use Rattle.js_syntax.specs.Node.{row}
use Rattle.js_syntax.specs.Hint.{has, is_private}
use Rattle.json_entries.proofs.flags.has_private.Given as goal

abbrev pub invariant-loop-child : goal.invariant-loop-child
invariant-loop-child l = has is_private (row l.children) ≡ has is_private (row (drop l.child-index l.children))
