use Rattle.std.proofs.Common.{◌≡◌, ◌+◌, ◌*◌, drop}
use Rattle.js_syntax.specs.Node.{row}
use Rattle.js_tree.specs.Weight.{size_of, tree_size}
use Rattle.exported_names.specs.Exported.{with_exports}
use Rattle.exported_names.proofs.exported.+exports.Given as goal

abbrev pub decreases-mark_exports : goal.decreases-mark_exports
decreases-mark_exports l = 2 * tree_size l.node.now

abbrev pub decreases-mark_exports_below : goal.decreases-mark_exports_below
decreases-mark_exports_below l = 2 * size_of (row l.children.now) + 1

abbrev pub invariant-mark_exports_below-loop-child : goal.invariant-mark_exports_below-loop-child
invariant-mark_exports_below-loop-child l = with_exports (row (drop l.child-index l.children)) l.marks ≡ with_exports (row l.children) l.initial.marks
