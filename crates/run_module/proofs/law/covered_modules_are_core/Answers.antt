use Rattle.run_module.proofs.Core.{covered_module}
use Rattle.run_module.proofs.law.covered_modules_are_core.Goals as goal

pub returns : goal.returns
returns c = covered_module
