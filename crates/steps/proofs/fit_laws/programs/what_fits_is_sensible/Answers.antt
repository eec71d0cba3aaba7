use Rattle.steps.proofs.Fit.Sensible.{sensible}
use Rattle.steps.proofs.fit_laws.programs.what_fits_is_sensible.Goals as goal

pub returns : goal.returns
returns c = sensible
