use Rattle.std.proofs.Common.{arith}
use Rattle.js_tree.proofs.Sizes.{child_smaller}
use Rattle.js_traverse.proofs.below.+add_outermost.Goals as goal

pub add_outermost-requires : goal.add_outermost-requires
add_outermost-requires t c = (omega (arith, child_smaller _ _ _ _ c.args.node.now c.loop-child-test.true c.child-item.is c.in-Some.is c.children-children.ensures), tt)
