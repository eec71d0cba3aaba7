use Rattle.steps.proofs.Allowed.TriedExpressions.{called_member_behind_zero, alternate_behind_zero, right_side_behind_zero, typed_name_behind_zero, deleted_member_behind_zero}
use Rattle.steps.proofs.allowed_laws.rows.indirect_choices_stand_behind_a_zero.Goals as goal

pub returns : goal.returns
returns c = record { called_member = called_member_behind_zero; alternate = alternate_behind_zero; right_side = right_side_behind_zero; typed_name = typed_name_behind_zero; deleted_member = deleted_member_behind_zero }
