use Rattle.steps.proofs.KeepForm.Fitting.{fits_laid_out}
use Rattle.steps.proofs.keep_form.laws.what_fits_is_laid_out.Goals as goal

pub returns : goal.returns
returns c t fits = fits_laid_out t fits
