use Rattle.steps.proofs.Allowed.Tried.{branch_is_nameless}
use Rattle.steps.proofs.allowed_laws.rows.what_may_take_a_name_stays.Goals as goal

pub returns : goal.returns
returns c = branch_is_nameless
