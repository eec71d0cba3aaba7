use Rattle.steps.proofs.Allowed.Tried.{name_in_with, read_in_with, given_in_with}
use Rattle.steps.proofs.allowed_laws.rows.nothing_is_known_in_with.Goals as goal

pub returns : goal.returns
returns c = record { name = name_in_with; read = read_in_with; given = given_in_with }
