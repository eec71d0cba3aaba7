use Rattle.std.proofs.Common.{◌≡◌, ◌≤◌, ◌+◌, ◌*◌, length}
use Rattle.js_syntax.specs.Node.{row}
use Rattle.js_tree.specs.Weight.{size_of, tree_size}
use Rattle.rules.specs.Expressions.LeftNames.{row_leaves}
use Rattle.min_statements.proofs.left_names.+leaves.Given as goal

abbrev pub decreases-branch_leaves : goal.decreases-branch_leaves
decreases-branch_leaves l = 2 * tree_size l.node.now

abbrev pub decreases-row_leaves : goal.decreases-row_leaves
decreases-row_leaves l = 2 * size_of (row l.children.now) + 1

abbrev pub invariant-row_leaves-loop-rest : goal.invariant-row_leaves-loop-rest
invariant-row_leaves-loop-rest l =
    record {
      same : row_leaves l.listed (row l.children) ≡ row_leaves l.listed (row l.rest);
      small : size_of (row l.rest) ≤ size_of (row l.children);
    }

abbrev pub decreases-row_leaves-loop-rest : goal.decreases-row_leaves-loop-rest
decreases-row_leaves-loop-rest l = length l.rest
