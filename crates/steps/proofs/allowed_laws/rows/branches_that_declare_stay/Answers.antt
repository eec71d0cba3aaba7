use Rattle.steps.proofs.Allowed.Tried.{alternate_stays, consequent_stays}
use Rattle.steps.proofs.allowed_laws.rows.branches_that_declare_stay.Goals as goal

pub returns : goal.returns
returns c = record { alternate = alternate_stays; consequent = consequent_stays }
