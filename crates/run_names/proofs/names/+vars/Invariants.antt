use Rattle.std.proofs.Common.{◌≡◌, ◌≤◌, ◌+◌, ◌*◌, ◌++◌, length}
use Rattle.js_syntax.specs.Node.{row}
use Rattle.js_tree.specs.Weight.{size_of, tree_size}
use Rattle.js_meaning.specs.Scope.{var_names}
use Rattle.run_names.specs.Held.{held}
use Rattle.run_names.proofs.names.+vars.Given as goal

abbrev pub decreases-vars_of_node : goal.decreases-vars_of_node
decreases-vars_of_node l = 2 * tree_size l.node.now

abbrev pub decreases-vars_of_row : goal.decreases-vars_of_row
decreases-vars_of_row l = 2 * size_of (row l.nodes.now) + 1

abbrev pub invariant-vars_of_row-loop-rest : goal.invariant-vars_of_row-loop-rest
invariant-vars_of_row-loop-rest l =
    record {
      names : held l.found.items ++ var_names (row l.rest) ≡ held l.fn.found.items ++ var_names (row l.nodes);
      small : size_of (row l.rest) ≤ size_of (row l.nodes);
    }

abbrev pub decreases-vars_of_row-loop-rest : goal.decreases-vars_of_row-loop-rest
decreases-vars_of_row-loop-rest l = length l.rest
