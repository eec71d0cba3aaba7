use Rattle.steps.proofs.Allowed.TriedExpressions.{both_sides_stay, right_side_stays, idle_sides_stay, used_negation_stays, typeof_name_stays, conversion_stays}
use Rattle.steps.proofs.allowed_laws.rows.what_may_act_stays.Goals as goal

pub returns : goal.returns
returns c = record { both = both_sides_stay; right_side = right_side_stays; none = idle_sides_stay; used = used_negation_stays; name = typeof_name_stays; converted = conversion_stays }
