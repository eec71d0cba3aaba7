use Rattle.std.proofs.Common.{ap, arith}
use Rattle.js_tree.specs.Count.{one_each, node_count}
use Rattle.js_tree.proofs.Children.{child_at, none_at, none_left}
use Rattle.js_tree.proofs.Sizes.{child_smaller}
use Rattle.js_tree.proofs.count.+take_nodes.Goals as goal
use Rattle.js_tree.proofs.count.+take_nodes.Goals.{in-Some, in_default}

pub take_nodes-rest-requires : goal.take_nodes-rest-requires
take_nodes-rest-requires t c =
    (omega (arith, child_smaller _ _ _ _ c.args.node.now c.loop-child-test.true c.child-item.is c.in-Some.is c.children-children.ensures), tt)

pub loop-child-init : goal.loop-child-init
loop-child-init t c =
    omega (arith, ap node_count c.children-children.ensures, ap one_each c.kind.ensures, c.own_count.ensures.own, c.saturating_sub-rest.ensures)

pub loop-child-preserved : goal.loop-child-preserved
loop-child-preserved t c =
    elim c.match-child.branch [
      | in-Some w ↦ omega (arith, ap node_count (child_at _ _ _ _ c.loop-child-test.true c.child-item.is w.in-Some.is), c.loop-child.invariant, w.take_nodes-rest.ensures, w.rest-is)
      | in_default w ↦ omega (arith, ap node_count (none_at _ _ _ c.loop-child-test.true c.child-item.is w.in_default.is), c.loop-child.invariant, w.rest-is)
    ]

pub returns-then-rest-eq0 : goal.returns-then-rest-eq0
returns-then-rest-eq0 t c = omega (arith, c.loop-child.invariant, c.if-rest-eq0.true)

pub returns : goal.returns
returns t c = omega (arith, ap node_count (none_left _ _ c.loop-child-test.false), c.loop-child.invariant)
