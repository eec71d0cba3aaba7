use Rattle.std.proofs.Common.{◌≡◌, ◌≤◌, ◌+◌, ◌*◌, ◌++◌, map, length}
use Rattle.js_syntax.specs.Node.{row}
use Rattle.js_tree.specs.Weight.{size_of, tree_size}
use Rattle.kept_names.specs.Kept.{kept}
use Rattle.kept_names.proofs.find.+kept.Given as goal

abbrev pub decreases-kept_in : goal.decreases-kept_in
decreases-kept_in l = 2 * tree_size l.node.now

abbrev pub decreases-kept_in_row : goal.decreases-kept_in_row
decreases-kept_in_row l = 2 * size_of (row l.children.now) + 1

abbrev pub invariant-kept_in_row-loop-rest : goal.invariant-kept_in_row-loop-rest
invariant-kept_in_row-loop-rest l =
    record {
      names : map (λ n. n.now) l.fn.names.items ++ kept (row l.children) ≡ map (λ n. n.now) l.names.items ++ kept (row l.rest);
      small : size_of (row l.rest) ≤ size_of (row l.children);
    }

abbrev pub decreases-kept_in_row-loop-rest : goal.decreases-kept_in_row-loop-rest
decreases-kept_in_row-loop-rest l = length l.rest
