use Rattle.steps.proofs.Allowed.Tried.{read_stays, exported_stays}
use Rattle.steps.proofs.allowed_laws.rows.what_is_used_stays.Goals as goal

pub returns : goal.returns
returns c = record { read = read_stays; exported = exported_stays }
