use Rattle.std.proofs.Common.{◌≡◌, ◌≤◌, ◌+◌, ◌*◌, ◌++◌, map, length}
use Rattle.js_syntax.specs.Node.{row}
use Rattle.js_tree.specs.Weight.{size_of, tree_size}
use Rattle.kept_names.specs.Kept.{declared}
use Rattle.kept_names.proofs.find.+declared.Given as goal

abbrev pub decreases-declared_in : goal.decreases-declared_in
decreases-declared_in l = 2 * tree_size l.node.now

abbrev pub decreases-declared_in_row : goal.decreases-declared_in_row
decreases-declared_in_row l = 2 * size_of (row l.children.now) + 1

abbrev pub invariant-declared_in_row-loop-rest : goal.invariant-declared_in_row-loop-rest
invariant-declared_in_row-loop-rest l =
    record {
      names : map (λ n. n.now) l.fn.names.items ++ declared (row l.children) ≡ map (λ n. n.now) l.names.items ++ declared (row l.rest);
      small : size_of (row l.rest) ≤ size_of (row l.children);
    }

abbrev pub decreases-declared_in_row-loop-rest : goal.decreases-declared_in_row-loop-rest
decreases-declared_in_row-loop-rest l = length l.rest
