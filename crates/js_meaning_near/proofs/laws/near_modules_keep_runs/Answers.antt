use Rattle.js_meaning.proofs.Kept.{refined_kept, refined_back}
use Rattle.js_meaning_near.specs.Near.{module_of}
use Rattle.js_meaning_near.proofs.Contexts.{near_refines}
use Rattle.js_meaning_near.proofs.laws.near_modules_keep_runs.Goals as goal

pub returns : goal.returns
returns c = record {
  kept = λ n m i j a b h. refined_kept (module_of n m a) (module_of i j b) (near_refines n m i j h);
  back = λ n m i j a b h. refined_back (module_of n m a) (module_of i j b) (near_refines n m i j h);
}
