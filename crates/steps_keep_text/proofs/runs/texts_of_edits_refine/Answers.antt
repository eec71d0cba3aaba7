use Rattle.js_syntax.specs.Node.{bare}
use Rattle.js_meaning.proofs.Kept.{refined_joined}
use Rattle.js_meaning_near.specs.Signed.{signed}
use Rattle.steps_keep_text.proofs.ReadBack.{runs_with_signs}
use Rattle.steps_keep_text.proofs.SignsApplied.{module_refines}
use Rattle.steps_keep_text.proofs.runs.texts_of_edits_refine.Goals as goal

pub returns : goal.returns
returns c = record {
  of_module = λ bytes t u read edits names core. module_refines u core (runs_with_signs bytes t u read edits names);
  of_program = λ bytes t u read edits names core refined. refined_joined t u (bare (signed u)) refined (module_refines u core (runs_with_signs bytes t u read edits names));
}
