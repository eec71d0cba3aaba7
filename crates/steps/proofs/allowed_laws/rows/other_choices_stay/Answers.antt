use Rattle.steps.proofs.Allowed.TriedExpressions.{acting_branches_stay, idle_branches_stay, used_choice_stays}
use Rattle.steps.proofs.allowed_laws.rows.other_choices_stay.Goals as goal

pub returns : goal.returns
returns c = record { both = acting_branches_stay; neither = idle_branches_stay; used = used_choice_stays }
