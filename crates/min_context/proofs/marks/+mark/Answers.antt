use Rattle.std.proofs.Common.{◌≤◌, [], ◌∷◌, arith}
use Rattle.js_syntax.specs.Node.{row}
use Rattle.js_tree.specs.Weight.{size_of, tree_size}
use Rattle.js_tree.proofs.Sizes.{item_smaller}
use Rattle.scope_counts.specs.Counts.{ids}
use Rattle.min_context.specs.Edited.{evals}
use Rattle.min_context.specs.Left.{Left}
use Rattle.min_context.proofs.Marking.{left_none, left_more, ids_next, evals_next}
use Rattle.min_context.proofs.marks.+mark.Goals.{mark_row-in-Some, mark_row-in_default}
use Rattle.min_context.proofs.marks.+mark.Goals as goal

pub mark_row-mark_node-requires : goal.mark_row-mark_node-requires
mark_row-mark_node-requires t c =
    let smaller = item_smaller c.args.children.now c.loop-child.child-index c.child-item.result c.loop-child-test.true c.child-item.is in
    let node_smaller : tree_size c.in-Some.node ≤ size_of (row c.args.children.now) = rw c.in-Some.is at smaller in
    omega (arith, node_smaller)

pub mark_row-loop-child-preserved : goal.mark_row-loop-child-preserved
mark_row-loop-child-preserved t c =
    let next : Left c.loop-child.changes (λ r. ids r (row (c.child-item.result ∷ []))) (evals (row (c.child-item.result ∷ []))) c.match-child.changes =
    elim c.match-child.branch [
      | mark_row-in-Some w ↦ rw (w.in-Some.is, w.changes-is) w.mark_node.ensures.left
      | mark_row-in_default w ↦ rw (w.in_default.is, w.changes-is) (left_none c.loop-child.changes)
    ] in
    left_more (λ r. ids_next r c.args.children.now c.loop-child.child-index c.child-item.result c.loop-child-test.true c.child-item.is) (evals_next c.args.children.now c.loop-child.child-index c.child-item.result c.loop-child-test.true c.child-item.is) c.loop-child.invariant next
