use Rattle.std.proofs.Common.{◌+◌, ◌*◌}
use Rattle.js_syntax.specs.Node.{row}
use Rattle.js_tree.specs.Weight.{size_of, tree_size}
use Rattle.min_statements.proofs.idle.+labels.Given as goal

abbrev pub decreases-does_nothing : goal.decreases-does_nothing
decreases-does_nothing l = 2 * tree_size l.node.now

abbrev pub decreases-labeled_idles : goal.decreases-labeled_idles
decreases-labeled_idles l = 2 * size_of (row l.parts.now) + 1
