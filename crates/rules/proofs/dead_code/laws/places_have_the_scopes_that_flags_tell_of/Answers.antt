use Rattle.rules.proofs.DeadCode.Before.{scope_before, variables_before, with_before}
use Rattle.rules.proofs.dead_code.laws.places_have_the_scopes_that_flags_tell_of.Goals as goal

pub returns : goal.returns
returns c = record { scope = scope_before; variables = variables_before; in_with = with_before }
