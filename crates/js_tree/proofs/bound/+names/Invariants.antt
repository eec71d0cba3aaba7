use Rattle.std.proofs.Common.{◌≡◌, ◌≤◌, ◌+◌, ◌*◌, ◌++◌, map, length}
use Rattle.js_syntax.specs.Node.{row}
use Rattle.js_tree.specs.Weight.{size_of, tree_size}
use Rattle.js_tree.specs.Names.{looked}
use Rattle.js_tree.proofs.bound.+names.Given as goal

abbrev pub decreases-names_of_node : goal.decreases-names_of_node
decreases-names_of_node l = 2 * tree_size l.node.now

abbrev pub decreases-names_of_row : goal.decreases-names_of_row
decreases-names_of_row l = 2 * size_of (row l.children.now) + 1

abbrev pub invariant-names_of_row-loop-rest : goal.invariant-names_of_row-loop-rest
invariant-names_of_row-loop-rest l =
    record {
      names : map (λ n. n.now) l.fn.names.items ++ (looked (row l.children)).all ≡ map (λ n. n.now) l.names.items ++ (looked (row l.rest)).all;
      small : size_of (row l.rest) ≤ size_of (row l.children);
    }

abbrev pub decreases-names_of_row-loop-rest : goal.decreases-names_of_row-loop-rest
decreases-names_of_row-loop-rest l = length l.rest
