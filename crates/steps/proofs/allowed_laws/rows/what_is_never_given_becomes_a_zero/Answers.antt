use Rattle.steps.proofs.Allowed.TriedExpressions.{unrun_variable_drops, unrun_head_drops, unrun_name_stays, run_value_stays, may_run_value_stays, function_value_stays, statement_is_no_value}
use Rattle.steps.proofs.allowed_laws.rows.what_is_never_given_becomes_a_zero.Goals as goal

pub returns : goal.returns
returns c = record { variable = unrun_variable_drops; head = unrun_head_drops; name = unrun_name_stays; runs = run_value_stays; may_run = may_run_value_stays; function = function_value_stays; statement = statement_is_no_value }
