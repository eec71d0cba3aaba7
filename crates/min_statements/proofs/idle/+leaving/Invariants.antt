use Rattle.std.proofs.Common.{◌+◌, ◌*◌}
use Rattle.js_syntax.specs.Node.{row}
use Rattle.js_tree.specs.Weight.{size_of, tree_size}
use Rattle.min_statements.proofs.idle.+leaving.Given as goal

abbrev pub decreases-leaves_at_once : goal.decreases-leaves_at_once
decreases-leaves_at_once l = 2 * tree_size l.node.now

abbrev pub decreases-first_leaves : goal.decreases-first_leaves
decreases-first_leaves l = 2 * size_of (row l.parts.now) + 1

abbrev pub decreases-labeled_leaves : goal.decreases-labeled_leaves
decreases-labeled_leaves l = 2 * size_of (row l.parts.now) + 1
