use Rattle.std.proofs.Common.{◌≤◌, ap, arith}
use Rattle.js_syntax.specs.Node.{row}
use Rattle.js_tree.specs.Count.{one_each, node_count}
use Rattle.js_tree.proofs.Children.{child_at, none_at, none_left}
use Rattle.js_tree.proofs.Sizes.{item_smaller}
use Rattle.js_tree.specs.Weight.{size_of, tree_size}
use Rattle.js_tree.proofs.count.+place_behind.Goals as goal
use Rattle.js_tree.proofs.count.+place_behind.Goals.{in-Some, in_default}

pub place_behind-next-requires : goal.place_behind-next-requires
place_behind-next-requires z c =
    let smaller : tree_size c.in-Some.node ≤ size_of (row c.args.nodes.now) = rw c.in-Some.is at (item_smaller _ _ _ c.loop-node-test.true c.node-item.is) in
    let here = ap node_count (child_at _ _ _ _ c.loop-node-test.true c.node-item.is c.in-Some.is) in
    (omega (arith, smaller, ap size_of c.children.ensures), omega (arith, here, c.loop-node.invariant, c.requires.fits, ap one_each c.kind.ensures, c.own_count.ensures.own, ap node_count c.children.ensures))

pub loop-node-preserved : goal.loop-node-preserved
loop-node-preserved z c =
    elim c.match-node.branch [
      | in-Some w ↦
          let here = ap node_count (child_at _ _ _ _ c.loop-node-test.true c.node-item.is w.in-Some.is) in
          omega (arith, here, c.loop-node.invariant, ap one_each w.kind.ensures, w.own_count.ensures.own, ap node_count w.children.ensures, w.place_behind-next.ensures, w.next-is)
      | in_default w ↦ omega (arith, ap node_count (none_at _ _ _ c.loop-node-test.true c.node-item.is w.in_default.is), c.loop-node.invariant, w.next-is)
    ]

pub returns : goal.returns
returns z c = record { behind = omega (arith, ap node_count (none_left _ _ c.loop-node-test.false), c.loop-node.invariant) }
