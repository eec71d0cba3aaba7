use Rattle.std.proofs.Common.{◌≡◌, ◌≤◌, ◌+◌, ◌*◌, length}
use Rattle.js_syntax.specs.Node.{row}
use Rattle.js_tree.specs.Weight.{size_of, tree_size}
use Rattle.rules.specs.Expressions.Untaken.{values_drop}
use Rattle.min_statements.proofs.values.+drop.Given as goal

abbrev pub decreases-values_drop_inside : goal.decreases-values_drop_inside
decreases-values_drop_inside l = 2 * tree_size l.node.now

abbrev pub decreases-values_drop : goal.decreases-values_drop
decreases-values_drop l = 2 * size_of (row l.children.now) + 1

abbrev pub invariant-values_drop-loop-rest : goal.invariant-values_drop-loop-rest
invariant-values_drop-loop-rest l =
    record {
      same : values_drop (row l.children) ≡ values_drop (row l.rest);
      small : size_of (row l.rest) ≤ size_of (row l.children);
    }

abbrev pub decreases-values_drop-loop-rest : goal.decreases-values_drop-loop-rest
decreases-values_drop-loop-rest l = length l.rest
