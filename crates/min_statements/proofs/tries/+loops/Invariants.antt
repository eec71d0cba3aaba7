use Rattle.std.proofs.Common.{◌≡◌, ◌≤◌, ◌+◌, ◌*◌, length}
use Rattle.js_syntax.specs.Node.{row}
use Rattle.js_tree.specs.Weight.{size_of, tree_size}
use Rattle.steps.specs.Allowed.IdleTry.{has_no_loop}
use Rattle.min_statements.proofs.tries.+loops.Given as goal

abbrev pub decreases-has_no_loop_at : goal.decreases-has_no_loop_at
decreases-has_no_loop_at l = 2 * tree_size l.node.now

abbrev pub decreases-has_no_loop : goal.decreases-has_no_loop
decreases-has_no_loop l = 2 * size_of (row l.children.now) + 1

abbrev pub invariant-has_no_loop-loop-rest : goal.invariant-has_no_loop-loop-rest
invariant-has_no_loop-loop-rest l =
    record {
      same : has_no_loop (row l.children) ≡ has_no_loop (row l.rest);
      small : size_of (row l.rest) ≤ size_of (row l.children);
    }

abbrev pub decreases-has_no_loop-loop-rest : goal.decreases-has_no_loop-loop-rest
decreases-has_no_loop-loop-rest l = length l.rest
