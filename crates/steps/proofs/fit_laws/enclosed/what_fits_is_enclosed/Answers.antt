use Rattle.steps.proofs.Fit.Enclosing.{fits_enclosed}
use Rattle.steps.proofs.fit_laws.enclosed.what_fits_is_enclosed.Goals as goal

pub returns : goal.returns
returns c t fits = fits_enclosed t fits
