use Rattle.min_traverse.proofs.Joining.{edit_moves}
use Rattle.min_traverse.proofs.laws.edits_move.Goals as goal

pub returns : goal.returns
returns g c = λ stays s s' k d x y asks edits fewer lighter quiet e kept. edit_moves stays edits fewer lighter quiet e kept
