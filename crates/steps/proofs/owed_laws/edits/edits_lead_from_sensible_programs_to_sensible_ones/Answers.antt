use Rattle.steps.proofs.Owed.Edited.{edit_sensible, edits_sensible}
use Rattle.steps.proofs.owed_laws.edits.edits_lead_from_sensible_programs_to_sensible_ones.Goals as goal

pub returns : goal.returns
returns c = record { one = edit_sensible; many = λ t u e s. edits_sensible e s }
