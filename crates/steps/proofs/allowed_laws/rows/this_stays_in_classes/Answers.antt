use Rattle.steps.proofs.Allowed.Tried.{this_in_class}
use Rattle.steps.proofs.allowed_laws.rows.this_stays_in_classes.Goals as goal

pub returns : goal.returns
returns c = this_in_class
