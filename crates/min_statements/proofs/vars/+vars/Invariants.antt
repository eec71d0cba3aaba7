use Rattle.std.proofs.Common.{◌≡◌, ◌≤◌, ◌+◌, ◌*◌, length}
use Rattle.js_syntax.specs.Node.{row}
use Rattle.js_tree.specs.Weight.{size_of, tree_size}
use Rattle.steps.specs.VarNames.Has.{has_vars}
use Rattle.min_statements.proofs.vars.+vars.Given as goal

abbrev pub decreases-has_vars_at : goal.decreases-has_vars_at
decreases-has_vars_at l = 2 * tree_size l.node.now

abbrev pub decreases-has_vars : goal.decreases-has_vars
decreases-has_vars l = 2 * size_of (row l.children.now) + 1

abbrev pub invariant-has_vars-loop-rest : goal.invariant-has_vars-loop-rest
invariant-has_vars-loop-rest l =
    record {
      same : has_vars (row l.children) ≡ has_vars (row l.rest);
      small : size_of (row l.rest) ≤ size_of (row l.children);
    }

abbrev pub decreases-has_vars-loop-rest : goal.decreases-has_vars-loop-rest
decreases-has_vars-loop-rest l = length l.rest
