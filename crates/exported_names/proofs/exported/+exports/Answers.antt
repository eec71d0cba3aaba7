use Rattle.std.proofs.Common.{◌≤◌, arith}
use Rattle.js_syntax.specs.Node.{row}
use Rattle.js_tree.specs.Weight.{size_of, tree_size}
use Rattle.js_tree.proofs.Sizes.{item_smaller}
use Rattle.exported_names.proofs.exported.+exports.Goals as goal

pub mark_exports_below-mark_exports-requires : goal.mark_exports_below-mark_exports-requires
mark_exports_below-mark_exports-requires z c =
    let smaller = item_smaller c.args.children.now c.loop-child.child-index c.child-item.result c.loop-child-test.true c.child-item.is in
    let node_smaller : tree_size c.in-Some.node ≤ size_of (row c.args.children.now) = rw c.in-Some.is at smaller in
    (omega (arith, node_smaller), tt)
