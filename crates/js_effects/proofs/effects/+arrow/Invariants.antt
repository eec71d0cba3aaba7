use Rattle.std.proofs.Common.{◌+◌, ◌*◌}
use Rattle.js_tree.specs.Weight.{size_of, tree_size}
use Rattle.js_effects.proofs.effects.+arrow.Given as goal

abbrev pub decreases-ends_in_arrow : goal.decreases-ends_in_arrow
decreases-ends_in_arrow l = 3 * tree_size l.node.now

abbrev pub decreases-part_ends_in_arrow : goal.decreases-part_ends_in_arrow
decreases-part_ends_in_arrow l = 3 * size_of l.node.now.below + 1

abbrev pub decreases-last_ends_in_arrow : goal.decreases-last_ends_in_arrow
decreases-last_ends_in_arrow l = 3 * size_of l.node.now.below + 2
