use Rattle.steps.proofs.Owed.FitsEdits.{edits_fit}
use Rattle.steps.proofs.owed_laws.fits.edits_of_a_program_keep_the_table.Goals as goal

pub returns : goal.returns
returns c = λ t u edits fits. edits_fit t u edits fits
