-- The list of a program, what is planned for it, and what it becomes.
use Rattle.std.specs.Prelude.{◌≡◌, List, [], ◌∷◌, length, Bool, true, Option, Some, None, if◌then◌else◌}
use Rattle.js_syntax.specs.declared.node_kind.NodeKind.TheVariants.{Statements as statements}
use Rattle.js_syntax.specs.Node.{Forest, Tree, nothing, node, row}
use Rattle.min_imports.specs.declared.passing.Passing.{Passing}
use Rattle.min_imports.specs.Merging.{planned}
use Rattle.min_imports.specs.Passing.{Plan}
use Rattle.rules.specs.DeadCode.Rules.{Facts}
use Rattle.rules.specs.Imports.Passed.{one_passes, list_passed}

abbrev pub list_of : (below : Forest) → Option Forest
list_of (node statements m items nothing) = Some items
list_of below = None

-- with other items
abbrev pub with_items : (items below : Forest) → Forest
with_items items (node k m old rest) = node k m items rest
with_items items below = below

pub record PlannedList (f : Facts) (staying : List Bool) (changed : List (Option Tree)) (below : Forest) : Type 0 where
  pub list : Forest
  pub there : list_of below ≡ Some list
  pub plan : Plan f staying changed list
  pub goes : one_passes f nothing list ≡ true

abbrev pub PlannedBelow : (f : Facts) (below : Forest) → Option Passing → Type 0
PlannedBelow f below None = list_passed f below ≡ None
PlannedBelow f below (Some p) = PlannedList f p.staying.items p.changed.items below

-- an item that leaves, or doesn't
abbrev pub out_one : (stays : Bool) → Option Tree → Forest
out_one stays x = if stays then nothing else row (x ∷ [])

-- a plan is for as many items as there are
pub record FitsBelow (staying : List Bool) (changed : List (Option Tree)) (below : Forest) : Type 0 where
  pub items : List (Option Tree)
  pub there : list_of below ≡ Some (row items)
  pub even : length changed ≡ length items
  pub long : length staying ≡ length items

abbrev pub PutBelow : (staying : List Bool) (changed : List (Option Tree)) (below left : Forest) → Type 0
PutBelow staying changed below left = (items : List (Option Tree)) → list_of below ≡ Some (row items) → left ≡ with_items (planned items staying changed) below
