-- Whether a template of which nobody takes the value has texts, and what is left of its row without them.
use Rattle.std.specs.Prelude.{Bool, false, ◌&&◌, Option, Some, None}
use Rattle.js_syntax.specs.declared.node_kind.NodeKind.{NodeKind as Kind}
use Rattle.js_syntax.specs.declared.node_kind.NodeKind.TheVariants.{TemplateLiteral as template_literal, Quasis as quasis, Expressions as expressions, TemplateElement as template_element}
use Rattle.js_syntax.specs.Node.{Forest, Tree, nothing, node}
use Rattle.steps.specs.Allowed.TwoSides.{has_texts, is_whole, without_text, without_texts}
use Rattle.rules.specs.Expressions.Uses.{Spot}

abbrev pub lists_have_texts : Kind → (elements : Forest) → Kind → (parts : Forest) → Bool
lists_have_texts quasis elements expressions parts = has_texts elements && is_whole elements parts
lists_have_texts k elements l parts = false

abbrev pub row_has_texts : Forest → Bool
row_has_texts (node k h elements (node l j parts nothing)) = lists_have_texts k elements l parts
row_has_texts t = false

abbrev pub template_has_texts : Kind → (below : Forest) → Bool
template_has_texts template_literal below = row_has_texts below
template_has_texts k below = false

-- where nobody takes the value
abbrev pub texts_go : Spot → Kind → (below : Forest) → Bool
texts_go s k below = s.is_unused && template_has_texts k below

-- ---- and without them

-- whether an element is the last one, if it is one
abbrev pub tail_of : Kind → Option Bool
tail_of (template_element text tail) = Some tail
tail_of k = None

abbrev pub textless : Tree → Tree
textless x = record { kind = without_text x.kind; note = x.note; below = x.below }

abbrev pub textless_list : Tree → Tree
textless_list x = record { kind = x.kind; note = x.note; below = without_texts x.below }

-- the first of a row is the list of them
abbrev pub textless_row : Forest → Forest
textless_row (node k h elements rest) = node k h (without_texts elements) rest
textless_row t = t
