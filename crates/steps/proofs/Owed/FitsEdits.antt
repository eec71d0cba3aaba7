-- An edit of a tree that fits the table of node types leads to one that fits.
use Rattle.std.proofs.Common.{◌≡◌, [], ◌∷◌, subst}
use Rattle.js_syntax.specs.Class.{root}
use Rattle.js_syntax.specs.Node.{Forest, bare}
use Rattle.steps.specs.Allowed.Edits.{Edit, leaves, becomes, merges, passes, TreeEdits, no_tree_edit, one_tree_edit, Edits, no_edit, one_edit}
use Rattle.json_shape.specs.Shape.{one, these, Stand, Fits}
use Rattle.json_shape.proofs.Standing.{bare_stands, stands_bare}
use Rattle.steps.proofs.Owed.MergedFits.{merged_fits}
use Rattle.steps.proofs.Owed.PassedFits.{passed_fits}
use Rattle.steps.proofs.Owed.Owed.{leaving, becoming}
use Rattle.steps.proofs.Owed.FitsLeaving.{leaving_fits}

pub edit_fits : (t u : Forest) → Edit t u → Fits root t → Fits root u
edit_fits t u (leaves a x out) fits = leaving_fits a x (leaving a x out).listed fits
edit_fits t u (becomes a x y into) fits = (becoming a x y into).fits fits
edit_fits t u (merges v w into) fits = merged_fits v w into fits
edit_fits t u (passes v w on) fits = passed_fits v w on fits

pub tree_edits_fit : (t u : Forest) → TreeEdits t u → Fits root t → Fits root u
tree_edits_fit t u (no_tree_edit v) fits = fits
tree_edits_fit t u (one_tree_edit v w x edit edits) fits = tree_edits_fit w x edits (edit_fits v w edit fits)

-- whether a tree fits doesn't depend on its notes
pub renoted_fits : (t u : Forest) → bare t ≡ bare u → Fits root t → Fits root u
renoted_fits t u same fits = stands_bare u (these (one root ∷ [])) (subst (Stand (these (one root ∷ []))) same (bare_stands t (these (one root ∷ [])) fits))

pub edits_fit : (t u : Forest) → Edits t u → Fits root t → Fits root u
edits_fit t u (no_edit v w same) fits = renoted_fits v w same fits
edits_fit t u (one_edit v w x y same edit edits) fits = edits_fit x y edits (edit_fits w x edit (renoted_fits v w same fits))
