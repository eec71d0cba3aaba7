use Rattle.std.proofs.Common.{◌+◌, ◌*◌, take}
use Rattle.js_syntax.specs.Node.{row}
use Rattle.js_tree.specs.Weight.{size_of, tree_size}
use Rattle.scope_counts.specs.Counts.{ids}
use Rattle.min_context.specs.Edited.{evals}
use Rattle.min_context.specs.Left.{Left}
use Rattle.min_context.proofs.marks.+mark.Given as goal

abbrev pub decreases-mark_node : goal.decreases-mark_node
decreases-mark_node l = 2 * tree_size l.node.now

abbrev pub decreases-mark_row : goal.decreases-mark_row
decreases-mark_row l = 2 * size_of (row l.children.now) + 1

abbrev pub invariant-mark_row-loop-child : goal.invariant-mark_row-loop-child
invariant-mark_row-loop-child l = Left l.fn.changes (λ r. ids r (row (take l.child-index l.children))) (evals (row (take l.child-index l.children))) l.changes
