use Rattle.min_traverse.proofs.Rows.{node_stays}
use Rattle.min_traverse.proofs.dispatch.enter_outer.Goals as goal

pub returns-else-has-clause-moves : goal.returns-else-has-clause-moves
returns-else-has-clause-moves g c = node_stays _ _ _

pub returns-in-None-clause-moves : goal.returns-in-None-clause-moves
returns-in-None-clause-moves g c = node_stays _ _ _
