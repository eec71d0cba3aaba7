-- What is left of an object literal of which nobody takes the value, by its properties.
use Rattle.std.specs.Prelude.{ℕ, List, [], ◌∷◌, ◌++◌, Bool, false, ◌&&◌, Option, Some, None}
use Rattle.js_syntax.specs.declared.node_kind.NodeKind.{NodeKind as Kind}
use Rattle.js_syntax.specs.declared.node_kind.NodeKind.TheVariants.{ObjectExpression as object_expression, Properties as properties}
use Rattle.js_syntax.specs.Node.{Forest, Tree, nothing, node, absent}
use Rattle.js_effects.specs.Each.{width}
use Rattle.steps.specs.Allowed.UnusedList.{acting}
use Rattle.steps.specs.Allowed.UnusedObject.{all_come_apart}
use Rattle.rules.specs.Expressions.Uses.{Spot}
use Rattle.min_expressions.specs.Kept.{child_at}
use Rattle.min_expressions.specs.Lists.{only, Found, found_with, are_one}

-- ---- the two parts of each property

abbrev pub pair_of : Option Tree → List (Option Tree)
pair_of None = []
pair_of (Some x) = child_at 0 x.below ∷ child_at 1 x.below ∷ []

abbrev pub all_pairs : List (Option Tree) → List (Option Tree)
all_pairs [] = []
all_pairs (x ∷ xs) = pair_of x ++ all_pairs xs

-- as a row
abbrev pub in_front : Option Tree → Forest → Forest
in_front None t = absent t
in_front (Some x) t = node x.kind x.note x.below t

abbrev pub in_pairs : (es : Forest) → Forest
in_pairs nothing = nothing
in_pairs (absent rest) = in_pairs rest
in_pairs (node k n below rest) = in_front (child_at 0 below) (in_front (child_at 1 below) (in_pairs rest))

-- how many of them act
abbrev pub pair_found : Found → Option Tree → Found
pair_found f None = f
pair_found f (Some x) = found_with (found_with f (child_at 0 x.below)) (child_at 1 x.below)

abbrev pub all_found : Found → List (Option Tree) → Found
all_found f [] = f
all_found f (x ∷ xs) = all_found (pair_found f x) xs

-- how many properties there are
abbrev pub count_of : (list : Option Tree) → ℕ
count_of None = 0
count_of (Some x) = width x.below

-- ---- whether an object becomes what acts of it

abbrev pub properties_go : Kind → (es : Forest) → Bool
properties_go properties es = all_come_apart es && are_one (acting (in_pairs es))
properties_go k es = false

abbrev pub list_goes : (list : Option Tree) → Bool
list_goes None = false
list_goes (Some x) = properties_go x.kind x.below

abbrev pub parts_go : Kind → (below : Forest) → Bool
parts_go object_expression below = list_goes (only below)
parts_go k below = false

-- where nobody takes the value
abbrev pub object_goes : Spot → Kind → (below : Forest) → Bool
object_goes s k below = s.is_unused && parts_go k below
