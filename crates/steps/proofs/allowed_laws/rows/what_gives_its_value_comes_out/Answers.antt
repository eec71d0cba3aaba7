use Rattle.steps.proofs.Allowed.Tried.{assigned_member_comes, argument_name_comes, called_name_comes, typed_member_comes, deleted_call_comes}
use Rattle.steps.proofs.allowed_laws.rows.what_gives_its_value_comes_out.Goals as goal

pub returns : goal.returns
returns c = record { assigned_member = assigned_member_comes; argument_name = argument_name_comes; called_name = called_name_comes; typed_member = typed_member_comes; deleted_call = deleted_call_comes }
