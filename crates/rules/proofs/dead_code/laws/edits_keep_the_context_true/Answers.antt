use Rattle.steps.specs.Allowed.Edits.{Edit}
use Rattle.rules.proofs.DeadCode.StaysTrue.{stays}
use Rattle.rules.proofs.dead_code.laws.edits_keep_the_context_true.Goals as goal

pub returns : goal.returns
returns c = stays (λ o. Edit) (λ o t u e. e)
