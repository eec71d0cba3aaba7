use Rattle.fresh_names.proofs.Fresh.{made, told, answered, fresh}
use Rattle.fresh_names.proofs.laws.calls_keep_names_taken.Goals as goal

pub returns : goal.returns
returns c = record { made = made; told = told; answered = answered; fresh = fresh }
