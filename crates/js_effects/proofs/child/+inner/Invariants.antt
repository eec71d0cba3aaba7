use Rattle.std.proofs.Common.{◌+◌, ◌*◌}
use Rattle.js_tree.specs.Weight.{size_of, tree_size}
use Rattle.js_effects.proofs.child.+inner.Given as goal

abbrev pub decreases-inner : goal.decreases-inner
decreases-inner l = 2 * tree_size l.node.now

abbrev pub decreases-inner_child : goal.decreases-inner_child
decreases-inner_child l = 2 * size_of l.node.now.below + 1
