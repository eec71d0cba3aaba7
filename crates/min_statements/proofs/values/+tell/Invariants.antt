use Rattle.std.proofs.Common.{◌≡◌, ◌≤◌, ◌+◌, ◌*◌, true, length}
use Rattle.js_syntax.specs.Node.{row}
use Rattle.js_tree.specs.Weight.{size_of, tree_size}
use Rattle.min_statements.proofs.Valuing.{Until}
use Rattle.min_statements.proofs.values.+tell.Given as goal

abbrev pub decreases-tell_values : goal.decreases-tell_values
decreases-tell_values l = 2 * tree_size l.node.now

abbrev pub decreases-tell_each : goal.decreases-tell_each
decreases-tell_each l = 2 * size_of (row l.children.now) + 1

abbrev pub invariant-tell_each-loop-rest : goal.invariant-tell_each-loop-rest
invariant-tell_each-loop-rest l =
    record {
      asked : l.ctx.requested ≡ true;
      left : Until l.fn.ctx (row l.children) l.ctx (row l.rest);
      small : size_of (row l.rest) ≤ size_of (row l.children);
    }

abbrev pub decreases-tell_each-loop-rest : goal.decreases-tell_each-loop-rest
decreases-tell_each-loop-rest l = length l.rest
