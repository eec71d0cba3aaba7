use Rattle.steps.proofs.Steps.{step_core}
use Rattle.steps.proofs.laws.a_step_keeps_core.Goals as goal

pub returns : goal.returns
returns c w t u s e = step_core s e
