use Rattle.std.proofs.Common.{◌∙◌, sym}
use Rattle.js_syntax.specs.Node.{nothing}
use Rattle.scope_counts.specs.Edits.{here}
use Rattle.min_traverse.proofs.Visiting.{quiet_node, root_visit}
use Rattle.min_traverse.proofs.walk.traverse_root.Goals as goal

pub walk_node-requires : goal.walk_node-requires
walk_node-requires g c = record { markable = c.requires.holds.0.room }

pub returns : goal.returns
returns g c =
    let m = c.in_ok-walk_node.ensures.moves.moves nothing in
    let back = c.in_ok-walk_node.ensures.moves.same_place ∙ c.requires.outside in
    record {
      edits = m.edits here (sym c.requires.outside) c.requires.holds;
      holds = m.keeps here (sym c.requires.outside) c.requires.holds;
      options = m.options;
      room = m.room;
      marks = m.marks;
      lighter = m.lighter;
      quiet = λ q. quiet_node c.in_ok-walk_node.ensures.moves q;
      visited = λ q. root_visit g.T.Traverse.visits g.T.Traverse.written _ _ _ _ _ c.requires.outside back (c.in_ok-walk_node.ensures.visited q);
      outside = back;
    }
