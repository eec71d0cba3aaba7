use Rattle.min_traverse.proofs.Joining.{does_moves}
use Rattle.min_traverse.proofs.laws.lawful_rules_move.Goals as goal

pub returns : goal.returns
returns g c = λ stays rule law s s' k d x y answer e kept. does_moves stays rule law e kept
