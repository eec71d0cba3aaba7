-- Where a node stands, as far as edits ask.
use Rattle.std.specs.Prelude.{◌≡◌, ℕ, Bool, true, false, ◌||◌, Option, Some}
use Rattle.js_syntax.specs.declared.node_kind.NodeKind.{NodeKind as Kind}
use Rattle.js_syntax.specs.Node.{Forest, Tree, Note, nothing, node, absent}
use Rattle.js_effects.specs.declared.surroundings.Surroundings.{Surroundings}
use Rattle.min_pass.specs.declared.around.Around.{Around as Asked}
use Rattle.min_pass.specs.declared.around.Row.TheVariants.{Items as items, Declarators as item_declarators}
use Rattle.min_pass.specs.Around.{entered as asked_below, outermost as asked_of_program}
use Rattle.scope_rules.specs.Context.{Context, outermost}
use Rattle.scope_laws.specs.Place.{Around, first, behind, behind_none, under}
use Rattle.steps.specs.Allowed.Silent.{inside_of, HoldsThere}
use Rattle.steps.specs.Allowed.Uses.{use_at, stands_bare}

abbrev pub a_node : Kind → Note → (below : Forest) → Option Tree
a_node k n below = Some (record { kind = k; note = n; below = below })

-- what is asked of the place, from what is asked of the row
abbrev pub asked_at : Asked → Around → Asked
asked_at w (first rest) = w
asked_at w (behind k n below a) = asked_at w a
asked_at w (behind_none a) = asked_at w a
asked_at w (under k n a rest) = asked_at (asked_below w k) a

-- whether a class stands around it
abbrev pub in_class_at : Around → Bool
in_class_at a = (asked_at (asked_of_program true) a).in_class

-- what stands around it, of what is asked
abbrev pub surroundings_asked : Asked → Surroundings
surroundings_asked w = inside_of w.in_class w.in_with

abbrev pub surroundings_at : Around → Surroundings
surroundings_at a = surroundings_asked (asked_at (asked_of_program true) a)

-- an item of a list of statements
abbrev pub IsItem : Around → Type 0
IsItem a = (asked_at (asked_of_program true) a).row ≡ items

-- a declarator of a declaration that is such an item
abbrev pub IsDeclarator : Around → Type 0
IsDeclarator a = (asked_at (asked_of_program true) a).row ≡ item_declarators

abbrev pub has_node : Forest → Bool
has_node (node k n below rest) = true
has_node (absent rest) = has_node rest
has_node nothing = false

-- whether another node stands in its row, or stood before this part of it
abbrev pub has_other : (before : Bool) → Around → Bool
has_other before (first rest) = before || has_node rest
has_other before (behind k n below a) = has_other true a
has_other before (behind_none a) = has_other before a
has_other before (under k n a rest) = has_other false a

-- what holds at a place
abbrev pub At : Around → Option Tree → (Bool → Context → ℕ → Type 0) → Type 0
At a x holds = HoldsThere false (λ at. outermost) 0 0 a x holds

-- the expression itself may stand there for another that gives its value
abbrev pub MayStandBare : Around → Kind → (below : Forest) → Type 0
MayStandBare a k below = stands_bare (use_at a) (asked_at (asked_of_program true) a).in_with k below ≡ true
