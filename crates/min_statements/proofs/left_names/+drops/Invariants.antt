use Rattle.std.proofs.Common.{◌≡◌, ◌≤◌, ◌+◌, ◌*◌, true, length}
use Rattle.js_syntax.specs.Node.{row}
use Rattle.js_tree.specs.Weight.{size_of, tree_size}
use Rattle.min_statements.proofs.Naming.{Until}
use Rattle.min_statements.proofs.left_names.+drops.Given as goal

abbrev pub decreases-drop_inside : goal.decreases-drop_inside
decreases-drop_inside l = 3 * tree_size l.node.now

abbrev pub decreases-drop_item : goal.decreases-drop_item
decreases-drop_item l = 3 * tree_size l.node.now + 1

abbrev pub decreases-drop_row : goal.decreases-drop_row
decreases-drop_row l = 3 * size_of (row l.children.now) + 2

abbrev pub invariant-drop_row-loop-rest : goal.invariant-drop_row-loop-rest
invariant-drop_row-loop-rest l =
    record {
      asked : l.ctx.requested ≡ true;
      left : Until l.fn.ctx l.listed (row l.children) l.ctx (row l.rest);
      small : size_of (row l.rest) ≤ size_of (row l.children);
    }

abbrev pub decreases-drop_row-loop-rest : goal.decreases-drop_row-loop-rest
decreases-drop_row-loop-rest l = length l.rest
