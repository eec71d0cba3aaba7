use Rattle.steps.proofs.Allowed.TriedExpressions.{argument_name_stays_direct, typed_member_stays_direct, called_name_stays_direct}
use Rattle.steps.proofs.allowed_laws.rows.direct_choices_take_no_zero.Goals as goal

pub returns : goal.returns
returns c = record { argument_name = argument_name_stays_direct; typed_member = typed_member_stays_direct; called_name = called_name_stays_direct }
