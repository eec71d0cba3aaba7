use Rattle.steps.proofs.Fit.Plain.{fits_plain}
use Rattle.steps.proofs.fit_laws.row_laws.what_fits_has_plain_statements.Goals as goal

pub returns : goal.returns
returns c t fits core = fits_plain t fits core
