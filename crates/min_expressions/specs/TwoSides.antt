-- Whether an operation of which nobody takes the value becomes a sequence of its sides: both act. And which text of a sum becomes the empty
-- one: it stands beside what acts.
use Rattle.std.specs.Prelude.{ℕ, Bool, false, ◌&&◌, Option, Some, None, if◌then◌else◌}
use Rattle.js_syntax.specs.declared.node_kind.NodeKind.{NodeKind as Kind}
use Rattle.js_syntax.specs.declared.node_kind.NodeKind.TheVariants.{BinaryExpression as binary_expression}
use Rattle.js_syntax.specs.declared.operator.BinaryOperator.TheVariants.{Addition as addition}
use Rattle.js_syntax.specs.Node.{Forest, Tree, nothing}
use Rattle.js_effects.specs.Silence.{only_combines}
use Rattle.steps.specs.Allowed.TwoSides.{gives_text, empty_text}
use Rattle.rules.specs.Expressions.Uses.{Spot}
use Rattle.min_expressions.specs.Kept.{Parts, pair, parts_of}
use Rattle.min_expressions.specs.Unused.{tree_acts}

abbrev pub both_act : Parts → Bool
both_act (pair x y) = tree_acts x && tree_acts y
both_act p = false

abbrev pub sides_act : Kind → (below : Forest) → Bool
sides_act (binary_expression o) below = only_combines (binary_expression o) below && both_act (parts_of below)
sides_act k below = false

-- where nobody takes the value
abbrev pub sides_go : Spot → Kind → (below : Forest) → Bool
sides_go s k below = s.is_unused && sides_act k below

-- ---- the text of a sum, by its index

abbrev pub text_between : (left right : Tree) → Option ℕ
text_between x y = if gives_text x.kind x.note x.below && tree_acts y then Some 0 else if gives_text y.kind y.note y.below && tree_acts x then Some 1 else None

abbrev pub text_of_parts : Parts → Option ℕ
text_of_parts (pair x y) = text_between x y
text_of_parts p = None

abbrev pub text_for : Kind → (below : Forest) → Option ℕ
text_for (binary_expression addition) below = text_of_parts (parts_of below)
text_for k below = None

-- where nobody takes the value
abbrev pub text_goes : Spot → Kind → (below : Forest) → Option ℕ
text_goes s k below = if s.is_unused then text_for k below else None

-- the empty text in the place of a node
abbrev pub emptied : Tree → Tree
emptied x = record { kind = empty_text; note = x.note; below = nothing }
