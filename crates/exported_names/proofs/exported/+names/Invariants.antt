use Rattle.std.proofs.Common.{◌≡◌, ◌+◌, ◌*◌, drop}
use Rattle.js_syntax.specs.Node.{row}
use Rattle.js_tree.specs.Weight.{size_of, tree_size}
use Rattle.exported_names.specs.Exported.{with_names}
use Rattle.exported_names.proofs.exported.+names.Given as goal

abbrev pub decreases-mark_names : goal.decreases-mark_names
decreases-mark_names l = 2 * tree_size l.node.now

abbrev pub decreases-mark_names_below : goal.decreases-mark_names_below
decreases-mark_names_below l = 2 * size_of (row l.children.now) + 1

abbrev pub invariant-mark_names_below-loop-child : goal.invariant-mark_names_below-loop-child
invariant-mark_names_below-loop-child l = with_names (row (drop l.child-index l.children)) l.marks ≡ with_names (row l.children) l.initial.marks
