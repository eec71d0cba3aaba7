use Rattle.std.proofs.Common.{◌≡◌, ◌≤◌, ◌+◌, ◌*◌, length}
use Rattle.js_syntax.specs.Node.{row}
use Rattle.js_tree.specs.Weight.{size_of, tree_size}
use Rattle.rules.specs.Expressions.Untaken.{row_loses}
use Rattle.min_statements.proofs.untaken.+loses.Given as goal

abbrev pub decreases-branch_loses : goal.decreases-branch_loses
decreases-branch_loses l = 2 * tree_size l.node.now

abbrev pub decreases-row_loses : goal.decreases-row_loses
decreases-row_loses l = 2 * size_of (row l.children.now) + 1

abbrev pub invariant-row_loses-loop-rest : goal.invariant-row_loses-loop-rest
invariant-row_loses-loop-rest l =
    record {
      same : row_loses l.listed (row l.children) ≡ row_loses l.listed (row l.rest);
      small : size_of (row l.rest) ≤ size_of (row l.children);
    }

abbrev pub decreases-row_loses-loop-rest : goal.decreases-row_loses-loop-rest
decreases-row_loses-loop-rest l = length l.rest
