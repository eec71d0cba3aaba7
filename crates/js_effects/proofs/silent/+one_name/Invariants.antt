use Rattle.std.proofs.Common.{◌+◌, ◌*◌}
use Rattle.js_tree.specs.Weight.{tree_size}
use Rattle.js_effects.proofs.silent.+one_name.Given as goal

abbrev pub decreases-has_one_name : goal.decreases-has_one_name
decreases-has_one_name l = 2 * tree_size l.node.now

abbrev pub decreases-names_one : goal.decreases-names_one
decreases-names_one l = 2 * tree_size l.node.now + 1
