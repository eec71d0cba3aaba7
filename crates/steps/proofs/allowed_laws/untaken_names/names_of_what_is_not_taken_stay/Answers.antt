use Rattle.steps.proofs.Allowed.TriedNames.{head_declares, all_are_declared}
use Rattle.steps.proofs.allowed_laws.untaken_names.names_of_what_is_not_taken_stay.Goals as goal

pub returns : goal.returns
returns c = record { head = head_declares; all = all_are_declared }
