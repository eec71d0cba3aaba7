use Rattle.steps.proofs.Allowed.Tried.{consequent_taken, alternate_taken, object_taken, negated_taken, consequent_run, alternate_run, object_run}
use Rattle.steps.proofs.allowed_laws.rows.known_branches_are_taken.Goals as goal

pub returns : goal.returns
returns c = record { consequent = consequent_taken; alternate = alternate_taken; object = object_taken; negated = negated_taken; if_holds = consequent_run; if_fails = alternate_run; if_object = object_run }
