-- Edits after edits are edits.
use Rattle.std.proofs.Common.{◌≡◌, ◌∙◌, refl}
use Rattle.js_syntax.specs.Node.{Forest, bare}
use Rattle.steps.specs.Allowed.Edits.{TreeEdits, no_tree_edit, one_tree_edit, Edits, no_edit, one_edit}

pub tree_edits_compose : {t u v : Forest} → TreeEdits t u → TreeEdits u v → TreeEdits t v
tree_edits_compose (no_tree_edit t) after = after
tree_edits_compose (one_tree_edit t w u first rest) after = one_tree_edit t w _ first (tree_edits_compose rest after)

same_before : {t u v : Forest} → bare t ≡ bare u → Edits u v → Edits t v
same_before {t = t} e (no_edit u v f) = no_edit t v (e ∙ f)
same_before {t = t} e (one_edit u v w x f first rest) = one_edit t v w x (e ∙ f) first rest

pub edits_follow : {t u v : Forest} → Edits t u → Edits u v → Edits t v
edits_follow (no_edit t u e) after = same_before e after
edits_follow (one_edit t v w u e first rest) after = one_edit t v w _ e first (edits_follow rest after)

pub tree_edits_are_edits : {t u : Forest} → TreeEdits t u → Edits t u
tree_edits_are_edits (no_tree_edit t) = no_edit t t refl
tree_edits_are_edits (one_tree_edit t w u first rest) = one_edit t t w u refl first (tree_edits_are_edits rest)
