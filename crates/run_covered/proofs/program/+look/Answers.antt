use Rattle.std.proofs.Common.{◌≤◌, ap, arith}
use Rattle.js_syntax.specs.Node.{row}
use Rattle.js_tree.specs.Count.{one_each, node_count}
use Rattle.js_tree.specs.Weight.{size_of, tree_size}
use Rattle.js_tree.proofs.Children.{child_at}
use Rattle.js_tree.proofs.Sizes.{item_smaller}
use Rattle.run_covered.proofs.program.+look.Goals as goal

-- src/program.rt:25:20
pub look-requires : goal.look-requires
look-requires t c =
    let smaller : tree_size c.in-Some.node ≤ size_of (row c.args.nodes.now) = rw c.in-Some.is at (item_smaller _ _ _ c.loop-node-test.true c.node-item.is) in
    let here = ap node_count (child_at _ _ _ _ c.loop-node-test.true c.node-item.is c.in-Some.is) in
    (omega (arith, smaller, ap size_of c.children.ensures), omega (arith, here, c.loop-node.invariant.0, c.requires.fits, ap one_each c.kind-in-Some.ensures, c.count_of_kind.ensures.own, ap node_count c.children.ensures))
