use Rattle.std.proofs.Common.{◌+◌, ◌*◌}
use Rattle.js_tree.specs.Weight.{size_of, tree_size}
use Rattle.js_effects.proofs.types.+types.Given as goal

abbrev pub decreases-value_type : goal.decreases-value_type
decreases-value_type g l = 3 * tree_size l.node.now

abbrev pub decreases-part_type : goal.decreases-part_type
decreases-part_type g l = 3 * size_of l.node.now.below + 1

abbrev pub decreases-last_type : goal.decreases-last_type
decreases-last_type g l = 3 * size_of l.node.now.below + 2
