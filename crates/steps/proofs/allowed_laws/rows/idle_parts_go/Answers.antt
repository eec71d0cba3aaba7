use Rattle.steps.proofs.Allowed.TriedExpressions.{last_part_stays, acting_parts_and_last_stay, member_keeps_a_zero, member_keeps_one_zero, typed_name_keeps_a_zero}
use Rattle.steps.proofs.allowed_laws.rows.idle_parts_go.Goals as goal

pub returns : goal.returns
returns c = record { all_but_the_last = last_part_stays; one_between = acting_parts_and_last_stay; called_member = member_keeps_a_zero; several = member_keeps_one_zero; typed_name = typed_name_keeps_a_zero }
