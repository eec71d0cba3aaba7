-- Steps of a program, one after the other, each with what is asked of a name whose declaration goes.
use Rattle.js_syntax.specs.Node.{Forest}
use Rattle.steps.specs.Steps.{Step, outermost}
use Rattle.steps.specs.KeepRuns.Once.{Once}

pub data CoreSteps : (t u : Forest) → Type 0 where
  no_step : {t : Forest} → CoreSteps t t
  one_step : {t u v : Forest} → (s : Step outermost t u) → Once s → CoreSteps u v → CoreSteps t v
