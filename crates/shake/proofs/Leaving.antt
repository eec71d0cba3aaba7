-- From what the library call leaves of a program that was read to what is written for it.
use Rattle.std.proofs.Common.{◌≡◌, ◌∙◌, ℕ, List, Bool, Option, Some, is_some, ap, subst}
use Rattle.std.specs.List.{count_by}
use Rattle.js_syntax.specs.Class.{root}
use Rattle.js_syntax.specs.Node.{Forest}
use Rattle.form_rules.specs.Form.{IsWellFormed}
use Rattle.json_text.specs.Fault.{untyped}
use Rattle.json_shape.specs.Shape.{Fits}
use Rattle.json_shape.proofs.FittingNodes.{nodes_fit}
use Rattle.scope_rules.specs.Table.{Scoping}
use Rattle.headline.proofs.Headline.{headline_of}
use Rattle.headline_text.proofs.Promise.{text_headline}
use Rattle.min_driver.specs.Left.{IsShaken}
use Rattle.min_driver.specs.Minify.{IsCleanBy}
use Rattle.min_options.specs.Options.{IsDce}
use Rattle.min_options.specs.declared.options.CompressOptions.{CompressOptions}
use Rattle.min_driver.proofs.Leaves.{dce_clean}
use Rattle.shake.specs.Run.{WasRead, dce_output, Shaken, IsDceOutput, IsInUtf8}

-- what was read fits the table of node types
pub read_fits : (t : Forest) → WasRead t → Fits root t
read_fits t (bytes, is) = nodes_fit 128 root untyped is.1.0 t is.1.2

module _ (t u : Forest) (s : Scoping) (passes : ℕ) (o : Option CompressOptions) (options : CompressOptions) (asked : o ≡ Some options) (dce : IsDce options) (left : IsShaken o t u s passes) (form : IsWellFormed t) (utf8 : IsInUtf8 u) where
  shaken : WasRead t → Shaken t u passes
  shaken (bytes, is) = record {
    headline = headline_of t u (read_fits t (bytes, is)) form left.edits (dce_clean options u dce (subst (λ (o : Option CompressOptions). IsCleanBy o u) asked left.clean));
    utf8 = utf8;
    text = text_headline bytes t u is form left.edits utf8;
    few = left.few;
    none = left.none (ap is_some asked);
  }

  pub output_for : (tree_only : Bool) (references : ℕ) (text : List ℕ) → WasRead t → text ≡ dce_output tree_only u passes references → references ≡ count_by (λ r. is_some r.symbol) s.references → IsDceOutput tree_only t text
  output_for tree_only references text read is counted = record {
    left = u;
    passes = passes;
    shaken = shaken read;
    is = is ∙ ap (λ (n : ℕ). dce_output tree_only u passes n) (counted ∙ left.resolved);
  }
