use Rattle.js_meaning.proofs.Kept.{refined_kept, refined_back}
use Rattle.js_meaning_near.specs.Near.{module_of}
use Rattle.steps.proofs.KeepRuns.Whole.{module_once}
use Rattle.steps.proofs.keep_runs.laws.a_step_of_a_core_module_keeps_runs.Goals as goal

pub returns : goal.returns
returns c = record {
  kept = λ n m a u s f e i o. refined_kept (module_of n m a) u (module_once n m a u s f e i o);
  back = λ n m a u s f e i o. refined_back (module_of n m a) u (module_once n m a u s f e i o);
}
