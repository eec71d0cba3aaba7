use Rattle.js_syntax.specs.Node.{nothing}
use Rattle.min_traverse.proofs.Rows.{node_markable, node_then}
use Rattle.min_traverse.proofs.Visiting.{enters}
use Rattle.min_traverse.proofs.dispatch.enter_node.Goals as goal

pub enter_middle-requires : goal.enter_middle-requires
enter_middle-requires g c = record { markable = node_markable c.in_ok-enter_outer.ensures.moves c.requires.markable }

pub enter_inner-requires : goal.enter_inner-requires
enter_inner-requires g c = record { markable = node_markable c.in_ok-enter_middle.ensures.moves (node_markable c.in_ok-enter_outer.ensures.moves c.requires.markable) }

pub returns : goal.returns
returns g c = record {
  moves = node_then c.in_ok-enter_outer.ensures.moves (node_then c.in_ok-enter_middle.ensures.moves c.in_ok-enter_inner.ensures.moves);
  visited = λ q.
      let q2 = (c.in_ok-enter_inner.ensures.moves.moves nothing).quiet_before q in
      let q1 = (c.in_ok-enter_middle.ensures.moves.moves nothing).quiet_before q2 in
      enters g.T.Traverse.visits g.T.Traverse.written _ _ _ _ _ _ _ _ _ c.in_ok-enter_outer.ensures.moves.same_place (c.in_ok-enter_outer.ensures.visited q1) (c.in_ok-enter_middle.ensures.visited q2) (c.in_ok-enter_inner.ensures.visited q);
}
