use Rattle.steps.proofs.Allowed.Tried.{called_member_stays, parenthesized_member_stays, called_in_with_stays, called_eval_stays, typed_name_stays, deleted_member_stays, deleted_name_stays}
use Rattle.steps.proofs.allowed_laws.rows.what_depends_on_its_place_stays.Goals as goal

pub returns : goal.returns
returns c = record { called_member = called_member_stays; in_parentheses = parenthesized_member_stays; called_in_with = called_in_with_stays; called_eval = called_eval_stays; typed_name = typed_name_stays; deleted_member = deleted_member_stays; deleted_name = deleted_name_stays }
