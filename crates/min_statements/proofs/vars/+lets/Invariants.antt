use Rattle.std.proofs.Common.{◌≡◌, ◌≤◌, ◌+◌, ◌*◌, length}
use Rattle.js_syntax.specs.Node.{row}
use Rattle.js_tree.specs.Weight.{size_of, tree_size}
use Rattle.steps.specs.Allowed.Branches.{lets_only}
use Rattle.steps.specs.VarNames.Declared.{without_vars}
use Rattle.min_statements.proofs.vars.+lets.Given as goal

abbrev pub decreases-lets_only_at : goal.decreases-lets_only_at
decreases-lets_only_at l = 2 * tree_size l.node.now

abbrev pub decreases-lets_only : goal.decreases-lets_only
decreases-lets_only l = 2 * size_of (row l.children.now) + 1

abbrev pub invariant-lets_only-loop-rest : goal.invariant-lets_only-loop-rest
invariant-lets_only-loop-rest l =
    record {
      same : lets_only (without_vars (row l.children)) ≡ lets_only (without_vars (row l.rest));
      small : size_of (row l.rest) ≤ size_of (row l.children);
    }

abbrev pub decreases-lets_only-loop-rest : goal.decreases-lets_only-loop-rest
decreases-lets_only-loop-rest l = length l.rest
