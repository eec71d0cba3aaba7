use Rattle.std.proofs.Common.{◌≡◌, ◌≤◌, ◌+◌, ◌*◌, length}
use Rattle.js_syntax.specs.Node.{row}
use Rattle.js_tree.specs.Weight.{size_of, tree_size}
use Rattle.steps.specs.Allowed.EmptyBlock.{idles}
use Rattle.min_statements.proofs.blocks.+idles.Given as goal

abbrev pub decreases-is_idle : goal.decreases-is_idle
decreases-is_idle l = 2 * tree_size l.node.now

abbrev pub decreases-idles : goal.decreases-idles
decreases-idles l = 2 * size_of (row l.children.now) + 1

abbrev pub invariant-idles-loop-rest : goal.invariant-idles-loop-rest
invariant-idles-loop-rest l =
    record {
      same : idles (row l.children) ≡ idles (row l.rest);
      small : size_of (row l.rest) ≤ size_of (row l.children);
    }

abbrev pub decreases-idles-loop-rest : goal.decreases-idles-loop-rest
decreases-idles-loop-rest l = length l.rest
