use Rattle.std.proofs.Common.{◌+◌, ◌*◌}
use Rattle.js_tree.specs.Weight.{size_of, tree_size}
use Rattle.js_effects.proofs.evaluate.+known.Given as goal

abbrev pub decreases-known : goal.decreases-known
decreases-known g l = 3 * tree_size l.node.now

abbrev pub decreases-known_of_unary : goal.decreases-known_of_unary
decreases-known_of_unary g l = 3 * size_of l.node.now.below + 2

abbrev pub decreases-known_of_binary : goal.decreases-known_of_binary
decreases-known_of_binary g l = 3 * size_of l.node.now.below + 2

abbrev pub decreases-part_known : goal.decreases-part_known
decreases-part_known g l = 3 * size_of l.node.now.below + 1

abbrev pub decreases-last_known : goal.decreases-last_known
decreases-last_known g l = 3 * size_of l.node.now.below + 2
