use Rattle.std.proofs.Common.{◌≡◌, drop}
use Rattle.js_syntax.specs.Node.{row}
use Rattle.test_traverse.specs.Bodies.{has_empty}
use Rattle.test_traverse.proofs.list.has_empty.Given as goal

abbrev pub invariant-loop-child : goal.invariant-loop-child
invariant-loop-child l = has_empty (row l.children) ≡ has_empty (row (drop l.child-index l.children))
