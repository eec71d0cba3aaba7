use Rattle.steps.proofs.KeepRuns.Formed.{formed_step}
use Rattle.steps.proofs.keep_runs.laws.a_step_keeps_the_form.Goals as goal

pub returns : goal.returns
returns c = λ t u s f. formed_step s f
