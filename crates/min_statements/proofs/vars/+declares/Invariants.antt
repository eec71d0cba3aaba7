use Rattle.std.proofs.Common.{◌≡◌, ◌≤◌, ◌+◌, ◌*◌, length}
use Rattle.js_syntax.specs.Node.{row}
use Rattle.js_tree.specs.Weight.{size_of, tree_size}
use Rattle.steps.specs.Allowed.Branches.{none_from}
use Rattle.steps.specs.VarNames.Declared.{without_vars}
use Rattle.min_statements.proofs.vars.+declares.Given as goal

abbrev pub decreases-declares_vars_alone : goal.decreases-declares_vars_alone
decreases-declares_vars_alone l = 2 * tree_size l.node.now

abbrev pub decreases-none_from : goal.decreases-none_from
decreases-none_from l = 2 * size_of (row l.children.now) + 1

abbrev pub invariant-none_from-loop-rest : goal.invariant-none_from-loop-rest
invariant-none_from-loop-rest l =
    record {
      same : none_from l.is_parameter (without_vars (row l.children)) ≡ none_from l.is_first (without_vars (row l.rest));
      small : size_of (row l.rest) ≤ size_of (row l.children);
    }

abbrev pub decreases-none_from-loop-rest : goal.decreases-none_from-loop-rest
decreases-none_from-loop-rest l = length l.rest
