use Rattle.steps.proofs.Fit.Sensible.{sensible_module}
use Rattle.steps.proofs.fit_laws.programs.core_modules_are_sensible.Goals as goal

pub returns : goal.returns
returns c = sensible_module
