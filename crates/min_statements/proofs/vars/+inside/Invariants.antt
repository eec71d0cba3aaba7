use Rattle.std.proofs.Common.{◌≡◌, ◌≤◌, ◌+◌, ◌*◌, length}
use Rattle.js_syntax.specs.Node.{row}
use Rattle.js_tree.specs.Weight.{size_of, tree_size}
use Rattle.steps.specs.Allowed.Branches.{inside_from}
use Rattle.steps.specs.VarNames.Declared.{without_vars}
use Rattle.min_statements.proofs.vars.+inside.Given as goal

abbrev pub decreases-stays_inside_at : goal.decreases-stays_inside_at
decreases-stays_inside_at l = 2 * tree_size l.node.now

abbrev pub decreases-inside_from : goal.decreases-inside_from
decreases-inside_from l = 2 * size_of (row l.children.now) + 1

abbrev pub invariant-inside_from-loop-rest : goal.invariant-inside_from-loop-rest
invariant-inside_from-loop-rest l =
    record {
      same : inside_from l.is_parameter (without_vars (row l.children)) ≡ inside_from l.is_first (without_vars (row l.rest));
      small : size_of (row l.rest) ≤ size_of (row l.children);
    }

abbrev pub decreases-inside_from-loop-rest : goal.decreases-inside_from-loop-rest
decreases-inside_from-loop-rest l = length l.rest
