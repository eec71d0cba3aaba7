use Rattle.std.proofs.Common.{◌≡◌, ◌≤◌, ◌+◌, ◌*◌, drop, take, get_or, length, ℕ, false, Option, Some}
use Rattle.std.specs.Prelude.{nat_lt}
use Rattle.js_syntax.specs.Node.{Tree, row}
use Rattle.js_tree.specs.Weight.{size_of, tree_size}
use Rattle.min_context.specs.Place.{below}
use Rattle.min_traverse.specs.Moves.{Holds, RowMoves}
use Rattle.min_traverse.specs.Visits.{VisitsFront}
use Rattle.min_traverse.proofs.Rows.{spot_at}
use Rattle.min_traverse.proofs.walk.+walk.Given as goal

abbrev pub decreases-walk_node : goal.decreases-walk_node
decreases-walk_node g l = 3 * tree_size l.node.now

abbrev pub decreases-walk_child : goal.decreases-walk_child
decreases-walk_child g l = 3 * tree_size l.node.now + 1

abbrev pub decreases-walk_children : goal.decreases-walk_children
decreases-walk_children g l = 3 * size_of (row l.children.now) + 2

abbrev pub invariant-walk_children-loop-at : goal.invariant-walk_children-loop-at
invariant-walk_children-loop-at g l = record {
  moves : RowMoves _ g.T.Traverse.edit (Holds g.T.Traverse.own) (below l.initial.ctx.place l.above) l.initial.traverse l.initial.ctx (row l.fn.children) l.traverse l.ctx (row l.children);
  visited : l.ctx.requested ≡ false → VisitsFront g.T.Traverse.visits g.T.Traverse.written (below l.initial.ctx.place l.above) (nat_lt l.at (length l.fn.children)) (row (take l.at l.fn.children)) l.initial.traverse l.initial.ctx l.traverse l.ctx;
  spot : spot_at (below l.initial.ctx.place l.above) l.children l.at ≡ record { outer = l.initial.ctx.place; above = Some l.above; at = l.at; previous = l.previous };
  first_spot : spot_at (below l.initial.ctx.place l.above) l.fn.children l.at ≡ record { outer = l.initial.ctx.place; above = Some l.above; at = l.at; previous = l.previous };
  unvisited : (j : ℕ) (d : Option Tree) → l.at ≤ j → get_or l.children j d ≡ get_or l.fn.children j d;
  small : size_of (row (drop l.at l.children)) ≤ size_of (row l.fn.children);
}
