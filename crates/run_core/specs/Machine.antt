-- What is left of a run at a step.
use Rattle.std.specs.Prelude.{List}
use Rattle.js_meaning.specs.Trace as meant
use Rattle.js_meaning.specs.State.{stop}
use Rattle.js_meaning.specs.Host.{Enter}
use Rattle.js_meaning.specs.Meaning.{enter}
use Rattle.js_meaning.specs.Run.{seen}
use Rattle.run_value.specs.Trace.{ending_of}
use Rattle.run_world.specs.declared.world.World.{World}
use Rattle.run_world.specs.World.{at}
use Rattle.run_plan.specs.declared.frame.Frame.{Frame}
use Rattle.run_plan.specs.declared.plan.Control.{Control}
use Rattle.run_plan.specs.Frame.{controls, onto}
use Rattle.run_core.specs.declared.machine.Step.{Step}
use Rattle.run_core.specs.declared.machine.Step.TheVariants.{GoesOn, Ends}

-- an entry at the depth that the budget allows still
abbrev pub enter_fully : Enter
enter_fully t s = enter s.budget t s

-- the run of what is computed now, with the frames that follow it
abbrev pub run_of : World → List Frame → Control → meant.Run
run_of w fs c = seen (at w (onto enter_fully fs (controls enter_fully c)))

abbrev pub after_step : World → List Frame → Step → meant.Run
after_step w fs (GoesOn c) = run_of w fs c.value
after_step w fs (Ends e) = seen (at w (stop (ending_of e)))
