use Rattle.std.proofs.Common.{◌≡◌, ◌+◌, ◌*◌, take}
use Rattle.std.specs.Prelude.{string_bytes}
use Rattle.js_syntax.specs.Node.{row}
use Rattle.js_tree.specs.Weight.{size_of, tree_size}
use Rattle.min_context.specs.Naming.{gathered}
use Rattle.min_context.proofs.naming.+gather.Given as goal

abbrev pub decreases-gather_node : goal.decreases-gather_node
decreases-gather_node l = 2 * tree_size l.node.now

abbrev pub decreases-gather_row : goal.decreases-gather_row
decreases-gather_row l = 2 * size_of (row l.children.now) + 1

abbrev pub invariant-gather_row-loop-child : goal.invariant-gather_row-loop-child
invariant-gather_row-loop-child l = string_bytes l.text ≡ gathered (string_bytes l.fn.text) (row (take l.child-index l.children))
