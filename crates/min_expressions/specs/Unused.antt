-- Which operand of an operation is needed alone, by its parts.
use Rattle.std.specs.Prelude.{ℕ, Bool, not, ◌&&◌, ◌||◌, Option, None, false, if◌then◌else◌}
use Rattle.js_syntax.specs.declared.node_kind.NodeKind.{NodeKind as Kind}
use Rattle.js_syntax.specs.Node.{Forest, Tree}
use Rattle.steps.specs.Allowed.UnusedOperation.{acts, is_needed, index_if, needed_at}
use Rattle.steps.specs.Allowed.Uses.{as_value, stands_bare}
use Rattle.rules.specs.Expressions.Uses.{Spot}
use Rattle.min_expressions.specs.Kept.{Parts, pair, triple}

abbrev pub tree_acts : Tree → Bool
tree_acts x = acts x.kind x.note x.below

abbrev pub tree_needed : Tree → Bool
tree_needed x = is_needed as_value x.kind x.note x.below

-- the right side of an operation acts, and the left one doesn't
abbrev pub right_alone : (left right : Tree) → Bool
right_alone x y = not (tree_acts x) && stands_bare as_value false y.kind y.below

abbrev pub side_of : (left right : Tree) → Option ℕ
side_of x y = if tree_acts y then index_if (right_alone x y) 1 else index_if (tree_needed x) 0

abbrev pub side_of_parts : Parts → Option ℕ
side_of_parts (pair x y) = side_of x y
side_of_parts p = None

abbrev pub left_of_parts : Parts → Option ℕ
left_of_parts (pair x y) = index_if (not (tree_acts y) && tree_needed x) 0
left_of_parts p = None

abbrev pub condition_of : (test consequent alternate : Tree) → Option ℕ
condition_of x y z = index_if (not (tree_acts y || tree_acts z) && tree_needed x) 0

abbrev pub condition_of_parts : Parts → Option ℕ
condition_of_parts (triple x y z) = condition_of x y z
condition_of_parts p = None

-- where nobody takes the value
abbrev pub unused_keeps : Spot → Kind → (below : Forest) → Option ℕ
unused_keeps s k below = if s.is_unused then needed_at k below else None
