use Rattle.min_traverse.proofs.Rows.{node_stays}
use Rattle.min_traverse.proofs.dispatch.call_exit_outer.Goals as goal

pub returns-in-None-clause-moves : goal.returns-in-None-clause-moves
returns-in-None-clause-moves g c = node_stays _ _ _
