use Rattle.steps.proofs.Allowed.TriedExpressions.{acting_consequent_stays, acting_alternate_stays}
use Rattle.steps.proofs.allowed_laws.rows.one_sided_choices_become_logical.Goals as goal

pub returns : goal.returns
returns c = record { consequent = acting_consequent_stays; alternate = acting_alternate_stays }
