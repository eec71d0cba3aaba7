use Rattle.steps.proofs.Owed.Edited.{edits_keep_calls}
use Rattle.steps.proofs.owed_laws.edits.calls_of_a_program_stay.Goals as goal

pub returns : goal.returns
returns c = λ t u e. edits_keep_calls e
