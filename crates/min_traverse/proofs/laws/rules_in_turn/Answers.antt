use Rattle.min_traverse.proofs.Joining.{either_lawful, first_does, then_does}
use Rattle.min_traverse.proofs.laws.rules_in_turn.Goals as goal

pub returns : goal.returns
returns g c = record { lawful = λ f h v w. either_lawful v w; first = λ f h k d x y w. first_does f h w; second = λ f h k d e x y z answer w v. then_does f h w v }
