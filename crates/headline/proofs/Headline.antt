-- A program without dead code to which edits lead is the program without its dead code.
use Rattle.std.proofs.Common.{◌≡◌, true}
use Rattle.js_syntax.specs.Class.{root}
use Rattle.js_syntax.specs.Node.{Forest}
use Rattle.form_rules.specs.Form.{IsWellFormed}
use Rattle.js_meaning.specs.Kept.{Kept, KeptBack}
use Rattle.js_meaning.proofs.Kept.{refined_kept, refined_back}
use Rattle.steps.specs.Allowed.Edits.{Edits}
use Rattle.json_shape.specs.Shape.{Fits}
use Rattle.steps.proofs.Fit.Sensible.{sensible_module}
use Rattle.headline.specs.Clean.{Clean}
use Rattle.headline.specs.Headline.{is_core_module, Headline}
use Rattle.headline.proofs.Sound.{Refines}
use Rattle.steps.proofs.Owed.FitsEdits.{edits_fit}
use Rattle.headline.proofs.Loading.{edits_load}
use Rattle.headline.proofs.Refining.{edits_refine}
use Rattle.headline.proofs.Rooted.{edits_names}
use Rattle.headline.proofs.UsedImports.{imports_used}

-- ---- of core modules

pub module_refines : (t u : Forest) → Fits root t → IsWellFormed t → Edits t u → is_core_module t ≡ true → Refines t u
module_refines t u fits form steps core = edits_refine steps (sensible_module t core fits form)

pub kept_by : (t u : Forest) → Fits root t → IsWellFormed t → Edits t u → is_core_module t ≡ true → Kept t u
kept_by t u fits form steps core = refined_kept t u (module_refines t u fits form steps core).refined

pub back_by : (t u : Forest) → Fits root t → IsWellFormed t → Edits t u → is_core_module t ≡ true → KeptBack t u
back_by t u fits form steps core = refined_back t u (module_refines t u fits form steps core).refined

pub headline_of : (t u : Forest) → Fits root t → IsWellFormed t → Edits t u → Clean u → Headline t u
headline_of t u fits form steps clean = record {
  edits = steps;
  kept = kept_by t u fits form steps;
  back = back_by t u fits form steps;
  clean = clean;
  loads = edits_load steps fits;
  shared = edits_names steps fits;
  imports = λ script calls. imports_used u (edits_fit t u steps fits) script calls clean;
}
