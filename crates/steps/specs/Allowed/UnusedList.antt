-- Of an array or a sequence of which nobody takes the value the parts stay that act: one alone, or several in a sequence; where one of
-- them is spread, in an array. So do the substitutions of a template, where each is primitive by its form (ECMA-262 13.2.8).
use Rattle.std.specs.Prelude.{◌≡◌, Bool, true, false, ◌&&◌, ◌||◌, Option, Some, None, if◌then◌else◌}
use Rattle.js_syntax.specs.declared.node_kind.NodeKind.{NodeKind as Kind}
use Rattle.js_syntax.specs.declared.node_kind.NodeKind.TheVariants.{ArrayExpression as array_expression, Elements as elements, SequenceExpression as sequence_expression, Expressions as expressions, TemplateLiteral as template_literal, Quasis as quasis, SpreadElement as spread_element}
use Rattle.js_syntax.specs.Node.{Forest, Tree, Note, nothing, node, absent}
use Rattle.js_effects.specs.Silence.{only_combines}
use Rattle.scope_laws.specs.Lists.{is_list}
use Rattle.scope_laws.specs.Place.{Around}
use Rattle.steps.specs.Allowed.Unused.{is_unused_at}
use Rattle.steps.specs.Allowed.UnusedOperation.{acts}
use Rattle.steps.specs.Allowed.Uses.{as_value, stands_bare}

-- the parts that act
abbrev pub acting : (parts : Forest) → Forest
acting nothing = nothing
acting (absent rest) = acting rest
acting (node k n a rest) = if acts k n a then node k n a (acting rest) else acting rest

-- Whether all do. A list weighs nothing, and none stands among expressions.
abbrev pub all_act : (parts : Forest) → Bool
all_act nothing = true
all_act (absent rest) = all_act rest
all_act (node k n a rest) = (acts k n a || is_list k) && all_act rest

-- what is spread asks for its iterator, and stands in lists alone (ECMA-262 13.2.4)
abbrev pub is_spread : Kind → Bool
is_spread spread_element = true
is_spread k = false

abbrev pub has_spread : (parts : Forest) → Bool
has_spread nothing = false
has_spread (absent rest) = has_spread rest
has_spread (node k n a rest) = is_spread k || has_spread rest

-- a sequence of parts, or the only one
abbrev pub as_one : (n m : Note) → (parts : Forest) → Option Tree
as_one n m nothing = None
as_one n m (node k i a nothing) = if stands_bare as_value false k a then Some (record { kind = k; note = i; below = a }) else None
as_one n m parts = Some (record { kind = sequence_expression; note = n; below = node expressions m parts nothing })

-- an array of parts where one is spread
abbrev pub as_elements : (n m : Note) → (parts : Forest) → Option Tree
as_elements n m parts = if has_spread parts then Some (record { kind = array_expression; note = n; below = node elements m parts nothing }) else as_one n m parts

-- whether an array stays as it is
abbrev pub array_stays : (parts : Forest) → Bool
array_stays parts = has_spread (acting parts) && all_act parts

-- what a list becomes, which is made with these notes
abbrev pub list_becomes : (n m : Note) → Kind → (below : Forest) → Option Tree
list_becomes n m array_expression (node elements i parts nothing) = if array_stays parts then None else as_elements n m (acting parts)
list_becomes n m sequence_expression (node expressions i parts nothing) = if all_act parts then None else as_one n m (acting parts)
list_becomes n m template_literal (node quasis h texts (node expressions i parts nothing)) =
    if only_combines template_literal (node quasis h texts (node expressions i parts nothing)) then as_one n m (acting parts) else None
list_becomes n m k below = None

pub data UnusedList (a : Around) : (x y : Tree) → Type 0 where
  acting_parts_stay : (n m : Note) (x y : Tree) → is_unused_at a ≡ true → list_becomes n m x.kind x.below ≡ Some y → UnusedList a x y
