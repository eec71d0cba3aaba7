use Rattle.std.proofs.Common.{◌≤◌, ◌∷◌, [], arith, refl}
use Rattle.js_syntax.specs.Node.{row}
use Rattle.js_tree.specs.Walk.{Walks}
use Rattle.js_tree.proofs.Walks.{one_more, all_walked}
use Rattle.js_tree.proofs.Sizes.{item_smaller}
use Rattle.js_tree.specs.Weight.{size_of, tree_size}
use Rattle.js_tree.proofs.visit.+walk.Goals.{walk_children-in-Some, walk_children-in_default}
use Rattle.js_tree.proofs.visit.+walk.Goals as goal

pub walk_children-walk_node-requires : goal.walk_children-walk_node-requires
walk_children-walk_node-requires g z c =
    let smaller = item_smaller c.args.children.now c.loop-child.child-index c.child-item.result c.loop-child-test.true c.child-item.is in
    let node_smaller : tree_size c.in-Some.node ≤ size_of (row c.args.children.now) = rw c.in-Some.is at smaller in
    λ κs h. (omega (arith, node_smaller), h)

pub walk_children-loop-child-preserved : goal.walk_children-loop-child-preserved
walk_children-loop-child-preserved g z c =
    let next : Walks g.V.Visit.visits (row (c.child-item.result ∷ [])) c.loop-child.visitor c.match-child.visitor =
    elim c.match-child.branch [
      | walk_children-in-Some w ↦ rw (w.in-Some.is, w.visitor-is) w.walk_node.ensures.walks
      | walk_children-in_default w ↦ rw (w.in_default.is, w.visitor-is) refl
    ] in
    one_more g.V.Visit.visits c.args.children.now c.loop-child.child-index c.child-item.result c.args.visitor.now c.loop-child.visitor c.match-child.visitor c.loop-child-test.true c.child-item.is c.loop-child.invariant next

pub walk_children-returns : goal.walk_children-returns
walk_children-returns g z c = all_walked g.V.Visit.visits c.args.children.now c.loop-child.child-index c.args.visitor.now c.loop-child.visitor (omega (arith, c.loop-child-test.false)) c.loop-child.invariant
