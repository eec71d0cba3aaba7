use Rattle.std.proofs.Common.{◌≡◌, ◌≤◌, ◌+◌, ◌*◌, length}
use Rattle.js_syntax.specs.Node.{row}
use Rattle.js_tree.specs.Weight.{size_of, tree_size}
use Rattle.js_meaning_near.specs.Near.{at_any, row_cuts}
use Rattle.min_statements.proofs.inert.+cuts.Given as goal

abbrev pub decreases-cuts_off : goal.decreases-cuts_off
decreases-cuts_off l = 4 * tree_size l.node.now

abbrev pub decreases-any_cuts : goal.decreases-any_cuts
decreases-any_cuts l = 4 * size_of (row l.children.now) + 1

abbrev pub decreases-first_cuts : goal.decreases-first_cuts
decreases-first_cuts l = 4 * size_of (row l.children.now) + 1

abbrev pub decreases-both_cut : goal.decreases-both_cut
decreases-both_cut l = 4 * size_of (row l.children.now) + 2

abbrev pub decreases-branches_cut : goal.decreases-branches_cut
decreases-branches_cut l = 4 * size_of (row l.children.now) + 3

abbrev pub invariant-any_cuts-loop-rest : goal.invariant-any_cuts-loop-rest
invariant-any_cuts-loop-rest l =
    record {
      same : row_cuts at_any (row l.children) ≡ row_cuts at_any (row l.rest);
      small : size_of (row l.rest) ≤ size_of (row l.children);
    }

abbrev pub decreases-any_cuts-loop-rest : goal.decreases-any_cuts-loop-rest
decreases-any_cuts-loop-rest l = length l.rest
