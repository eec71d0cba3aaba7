use Rattle.std.proofs.Common.{◌≡◌, ◌≤◌, ◌+◌, ◌*◌, ◌++◌, length}
use Rattle.js_syntax.specs.Node.{row}
use Rattle.js_tree.specs.Weight.{size_of, tree_size}
use Rattle.js_meaning.specs.Scope.{bound_names}
use Rattle.run_names.specs.Held.{held}
use Rattle.run_names.proofs.names.+bound.Given as goal

abbrev pub decreases-bound_of_node : goal.decreases-bound_of_node
decreases-bound_of_node l = 2 * tree_size l.node.now

abbrev pub decreases-bound_of_row : goal.decreases-bound_of_row
decreases-bound_of_row l = 2 * size_of (row l.nodes.now) + 1

abbrev pub invariant-bound_of_row-loop-rest : goal.invariant-bound_of_row-loop-rest
invariant-bound_of_row-loop-rest l =
    record {
      names : held l.found.items ++ bound_names (row l.rest) ≡ held l.fn.found.items ++ bound_names (row l.nodes);
      small : size_of (row l.rest) ≤ size_of (row l.nodes);
    }

abbrev pub decreases-bound_of_row-loop-rest : goal.decreases-bound_of_row-loop-rest
decreases-bound_of_row-loop-rest l = length l.rest
