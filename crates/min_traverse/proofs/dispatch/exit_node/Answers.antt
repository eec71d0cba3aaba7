use Rattle.std.proofs.Common.{◌∙◌}
use Rattle.js_syntax.specs.Node.{nothing}
use Rattle.min_traverse.proofs.Rows.{node_markable, node_then}
use Rattle.min_traverse.proofs.Visiting.{exits, quiet_node}
use Rattle.min_traverse.proofs.dispatch.exit_node.Goals as goal

pub exit_middle-requires : goal.exit_middle-requires
exit_middle-requires g c = record { markable = node_markable c.in_ok-exit_inner.ensures.moves c.requires.markable }

pub exit_outer-requires : goal.exit_outer-requires
exit_outer-requires g c = record { markable = node_markable c.in_ok-exit_middle.ensures.moves (node_markable c.in_ok-exit_inner.ensures.moves c.requires.markable) }

pub returns : goal.returns
returns g c = record {
  moves = node_then c.in_ok-exit_inner.ensures.moves (node_then c.in_ok-exit_middle.ensures.moves c.in_ok-exit_outer.ensures.moves);
  visited = λ q.
      let q2 = (c.in_ok-exit_outer.ensures.moves.moves nothing).quiet_before q in
      let q1 = (c.in_ok-exit_middle.ensures.moves.moves nothing).quiet_before q2 in
      let first = quiet_node c.in_ok-exit_inner.ensures.moves q1 in
      let second = quiet_node c.in_ok-exit_middle.ensures.moves q2 ∙ first in
      let place = c.in_ok-exit_inner.ensures.moves.same_place in
      exits g.T.Traverse.visits g.T.Traverse.written _ _ _ _ _ _ _ _ _ _ _ first second place (c.in_ok-exit_middle.ensures.moves.same_place ∙ place) (c.in_ok-exit_inner.ensures.visited q1) (c.in_ok-exit_middle.ensures.visited q2) (c.in_ok-exit_outer.ensures.visited q);
}
