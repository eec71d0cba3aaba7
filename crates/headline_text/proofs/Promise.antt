-- What the text of what edits leave promises of the program.
use Rattle.std.proofs.Common.{◌≡◌, ℕ, List, true, Ok, IsUtf8, ap}
use Rattle.js_syntax.specs.Node.{Forest, bare, total}
use Rattle.js_meaning.specs.Kept.{Refined}
use Rattle.js_meaning.proofs.Kept.{refined_joined, refined_kept, refined_back}
use Rattle.form_rules.specs.Form.{IsWellFormed}
use Rattle.json_text.specs.Answer.{IsReadAs}
use Rattle.json_text.specs.Text.{text_of}
use Rattle.json_kept.specs.Respelled.{misnamed}
use Rattle.steps.specs.Allowed.Edits.{Edits}
use Rattle.steps.specs.Fit.Sensible.{is_core_module}
use Rattle.headline.proofs.Headline.{module_refines as edits_refine}
use Rattle.headline_text.specs.Written.{written, TextHeadline}
use Rattle.steps_keep_text.proofs.ReadBack.{read_fits, unsigned, read_with_signs, runs_with_signs}
use Rattle.steps_keep_text.proofs.SignsApplied.{module_refines}

module _ (bytes : List ℕ) (t u : Forest) (read : IsReadAs bytes (Ok t)) (form : IsWellFormed t) (edits : Edits t u) where
  text_refines : total misnamed t ≡ 0 → is_core_module t ≡ true → Refined t (written u)
  text_refines names core =
      let refines = edits_refine t u (read_fits bytes t read) form edits core in
      refined_joined t u (written u) refines.refined (module_refines u refines.left (runs_with_signs bytes t u read edits names))

  pub text_headline : IsUtf8 (text_of u) → TextHeadline t u
  text_headline utf8 = record {
    read = λ names shallow. read_with_signs bytes t u read edits names shallow utf8;
    plain = λ none. ap bare (unsigned bytes t u read edits none);
    kept = λ names core. refined_kept t (written u) (text_refines names core);
    back = λ names core. refined_back t (written u) (text_refines names core);
  }
