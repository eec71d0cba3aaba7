use Rattle.steps.proofs.Owed.FitsEdits.{edit_fits}
use Rattle.steps.proofs.owed_laws.fits.edits_keep_the_table.Goals as goal

pub returns : goal.returns
returns c = λ t u edit fits. edit_fits t u edit fits
