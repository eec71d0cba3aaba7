use Rattle.std.proofs.Common.{[], ◌∷◌, refl}
use Rattle.js_syntax.specs.Class.{root}
use Rattle.json_shape.specs.Shape.{one, these}
use Rattle.min_pass.specs.declared.around.Row.TheVariants.{Other as other}
use Rattle.steps.proofs.KeepTable.Swept.{swept_stands}
use Rattle.steps.proofs.keep_table.cleared.cleared_trees_fit.Goals as goal

pub returns : goal.returns
returns c = λ t fits. swept_stands t other (these (one root ∷ [])) refl (λ d. absurd (cc d)) fits
