use Rattle.run_module.proofs.Core.{module_covered}
use Rattle.run_module.proofs.law.core_modules_are_covered.Goals as goal

pub returns : goal.returns
returns c = module_covered
