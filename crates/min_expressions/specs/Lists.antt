-- What is left of a list of which nobody takes the value, by its parts.
use Rattle.std.specs.Prelude.{List, [], ◌∷◌, Bool, true, false, not, ◌&&◌, ◌||◌, Option, Some, None, if◌then◌else◌}
use Rattle.js_syntax.specs.declared.node_kind.NodeKind.{NodeKind as Kind}
use Rattle.js_syntax.specs.declared.node_kind.NodeKind.TheVariants.{ArrayExpression as array_expression, Elements as elements, SequenceExpression as sequence_expression, Expressions as expressions}
use Rattle.js_syntax.specs.Node.{Forest, Tree, Note, nothing, node, absent}
use Rattle.steps.specs.Allowed.UnusedOperation.{acts}
use Rattle.steps.specs.Allowed.UnusedList.{acting, all_act, has_spread, as_one, as_elements}
use Rattle.steps.specs.Allowed.Uses.{as_value, stands_bare}
use Rattle.rules.specs.Expressions.Uses.{Spot}
use Rattle.min_expressions.specs.Unused.{tree_acts}
use Rattle.min_expressions.specs.declared.list.Found.{Found as Answer}
use Rattle.min_expressions.specs.declared.list.Found.TheVariants as answer

-- the only node of a row
abbrev pub only : Forest → Option Tree
only (node k n a nothing) = Some (record { kind = k; note = n; below = a })
only t = None

abbrev pub item_acts : Option Tree → Bool
item_acts None = false
item_acts (Some x) = tree_acts x

-- the parts that don't act
abbrev pub idle : (parts : Forest) → Forest
idle nothing = nothing
idle (absent rest) = idle rest
idle (node k n a rest) = if acts k n a then idle rest else node k n a (idle rest)

-- ---- what acts: nothing, one part, which may stand there itself or not, or several

pub data Found : Type 0 where
  none : Found
  one : (is_bare : Bool) → Found
  several : Found

-- as code says it
abbrev pub told_found : Answer → Found
told_found answer.Nothing = none
told_found (answer.One b) = one b
told_found answer.Several = several

abbrev pub one_more : Found → (is_bare : Bool) → Found
one_more none b = one b
one_more f b = several

abbrev pub found_with : Found → Option Tree → Found
found_with f None = f
found_with f (Some x) = if tree_acts x then one_more f (stands_bare as_value false x.kind x.below) else f

abbrev pub found_from : Found → List (Option Tree) → Found
found_from f [] = f
found_from f (x ∷ xs) = found_from (found_with f x) xs

abbrev pub is_enough : Found → Bool
is_enough none = false
is_enough (one b) = b
is_enough several = true

-- whether these parts are one expression
abbrev pub are_one : (parts : Forest) → Bool
are_one nothing = false
are_one (node k n a nothing) = stands_bare as_value false k a
are_one parts = true

-- an array where one of its elements is spread, else one expression
abbrev pub is_array : Kind → Bool
is_array array_expression = true
is_array k = false

abbrev pub list_left : (array : Bool) → (n m : Note) → (parts : Forest) → Option Tree
list_left array n m parts = if array then as_elements n m parts else as_one n m parts

abbrev pub are_left : (array : Bool) → (parts : Forest) → Bool
are_left array parts = (array && has_spread parts) || are_one parts

-- ---- whether a list becomes what acts of it

abbrev pub elements_go : Kind → (parts : Forest) → Bool
elements_go elements parts = if has_spread (acting parts) then not (all_act parts) else are_one (acting parts)
elements_go k parts = false

abbrev pub expressions_go : Kind → (parts : Forest) → Bool
expressions_go expressions parts = not (all_act parts) && are_one (acting parts)
expressions_go k parts = false

abbrev pub array_goes : (list : Option Tree) → Bool
array_goes None = false
array_goes (Some x) = elements_go x.kind x.below

abbrev pub sequence_goes : (list : Option Tree) → Bool
sequence_goes None = false
sequence_goes (Some x) = expressions_go x.kind x.below

-- of an array or a sequence
abbrev pub parts_go : Kind → (below : Forest) → Bool
parts_go array_expression below = array_goes (only below)
parts_go sequence_expression below = sequence_goes (only below)
parts_go k below = false

-- where nobody takes the value
abbrev pub list_goes : Spot → Kind → (below : Forest) → Bool
list_goes s array_expression below = s.is_unused && array_goes (only below)
list_goes s sequence_expression below = s.is_unused && sequence_goes (only below)
list_goes s k below = false
