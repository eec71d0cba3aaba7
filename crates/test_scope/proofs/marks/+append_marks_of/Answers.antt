use Rattle.std.proofs.Common.{◌≤◌, ap, arith}
use Rattle.js_syntax.specs.Node.{row}
use Rattle.js_tree.specs.Weight.{size_of, tree_size}
use Rattle.js_tree.proofs.Sizes.{item_smaller}
use Rattle.test_scope.proofs.marks.+append_marks_of.Goals as goal

pub append_marks_of-requires : goal.append_marks_of-requires
append_marks_of-requires t c =
    let smaller : tree_size c.in-Some.node ≤ size_of (row c.args.nodes.now) = rw c.in-Some.is at (item_smaller _ _ _ c.loop-node-test.true c.node-item.is) in
    omega (arith, smaller, ap size_of c.children.ensures)
