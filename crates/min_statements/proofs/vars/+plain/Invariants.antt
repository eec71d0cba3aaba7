use Rattle.std.proofs.Common.{◌≡◌, ◌≤◌, ◌+◌, ◌*◌, length}
use Rattle.js_syntax.specs.Node.{row}
use Rattle.js_tree.specs.Weight.{size_of, tree_size}
use Rattle.steps.specs.VarNames.Plain.{vars_bind_names}
use Rattle.min_statements.proofs.vars.+plain.Given as goal

abbrev pub decreases-vars_bind_names_at : goal.decreases-vars_bind_names_at
decreases-vars_bind_names_at l = 2 * tree_size l.node.now

abbrev pub decreases-vars_bind_names : goal.decreases-vars_bind_names
decreases-vars_bind_names l = 2 * size_of (row l.children.now) + 1

abbrev pub invariant-vars_bind_names-loop-rest : goal.invariant-vars_bind_names-loop-rest
invariant-vars_bind_names-loop-rest l =
    record {
      same : vars_bind_names (row l.children) ≡ vars_bind_names (row l.rest);
      small : size_of (row l.rest) ≤ size_of (row l.children);
    }

abbrev pub decreases-vars_bind_names-loop-rest : goal.decreases-vars_bind_names-loop-rest
decreases-vars_bind_names-loop-rest l = length l.rest
