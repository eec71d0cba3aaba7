-- What is left of a sequence, by its parts.
use Rattle.std.specs.Prelude.{Bool, true, false, not, ◌&&◌, ◌||◌, Option, Some, None, if◌then◌else◌}
use Rattle.js_syntax.specs.declared.node_kind.NodeKind.{NodeKind as Kind}
use Rattle.js_syntax.specs.declared.node_kind.NodeKind.TheVariants.{SequenceExpression as sequence_expression, Expressions as expressions}
use Rattle.js_syntax.specs.Node.{Forest, Tree, nothing, node, absent}
use Rattle.steps.specs.Allowed.IdleParts.{stays_before, counting, all_count, is_more, more_before}
use Rattle.steps.specs.Allowed.Uses.{stands_bare}
use Rattle.rules.specs.Expressions.Uses.{Spot}
use Rattle.min_expressions.specs.Kept.{stands_at}
use Rattle.min_expressions.specs.Lists.{only}

-- ---- of parts in front of another

abbrev pub item_stays : Option Tree → Bool
item_stays None = true
item_stays (Some x) = stays_before x.kind x.note x.below

abbrev pub some_stay : (parts : Forest) → Bool
some_stay nothing = false
some_stay (absent rest) = true
some_stay (node k n a rest) = stays_before k n a || some_stay rest

-- whether they are more than a zero
abbrev pub more_alone : (parts : Forest) → Bool
more_alone (node k n a nothing) = is_more k a
more_alone parts = true

-- those that leave
abbrev pub leaving : (parts : Forest) → Forest
leaving nothing = nothing
leaving (absent rest) = leaving rest
leaving (node k n a rest) = if stays_before k n a then leaving rest else node k n a (leaving rest)

-- ---- whether a sequence becomes what stays of it

-- the last part may stand where the whole stood
abbrev pub last_stands : Spot → Option Tree → Bool
last_stands s None = true
last_stands s (Some x) = stands_at s x

-- whether these parts are one expression, or one part that may come to stand behind a zero
abbrev pub are_value : Spot → (behind : Bool) → (parts : Forest) → Bool
are_value s behind nothing = false
are_value s behind (node k n a nothing) = stands_bare s.used_as s.in_with k a || behind
are_value s behind parts = true

-- whether what stays is none, itself
abbrev pub comes_behind : Spot → (parts : Forest) → Bool
comes_behind s parts = not (are_value s false (counting parts))

abbrev pub parts_go : Spot → (parts : Forest) → Bool
parts_go s parts = not (all_count parts) && are_value s (more_before parts) (counting parts)

abbrev pub list_goes : Spot → Kind → (parts : Forest) → Bool
list_goes s expressions parts = parts_go s parts
list_goes s k parts = false

abbrev pub only_goes : Spot → (list : Option Tree) → Bool
only_goes s None = false
only_goes s (Some x) = list_goes s x.kind x.below

abbrev pub sequence_goes : Spot → Kind → (below : Forest) → Bool
sequence_goes s sequence_expression below = only_goes s (only below)
sequence_goes s k below = false
