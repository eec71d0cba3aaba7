-- What leaves a list of statements, counted.
use Rattle.std.specs.Prelude.{ℕ, ◌+◌, Bool, false, ◌||◌, Option, Some, None, if◌then◌else◌}
use Rattle.js_syntax.specs.declared.node_kind.NodeKind.{NodeKind as Kind}
use Rattle.js_syntax.specs.declared.node_kind.NodeKind.TheVariants.{VariableDeclaration as variable_declaration, Declarators as declarators}
use Rattle.js_syntax.specs.declared.kind.VariableKind.{VariableKind}
use Rattle.js_syntax.specs.Node.{Forest, Tree, nothing, node, absent, alone}
use Rattle.js_meaning_near.specs.Near.{cuts_off}
use Rattle.rules.specs.DeadCode.Rules.{Facts, Where, declarator_goes, item_goes, item_left}
use Rattle.rules.specs.Expressions.Jumps.{is_inert, emptied_behind}
use Rattle.rules.specs.Imports.Rules.{specifier_goes}

-- `m` says what a row counts
module _ (m : Forest → ℕ) (f : Facts) (w : Where) where
  abbrev pub declarators_shed : VariableKind → Forest → ℕ
  declarators_shed how nothing = 0
  declarators_shed how (absent rest) = declarators_shed how rest
  declarators_shed how (node k n below rest) = (if declarator_goes f w how k below then m (alone k n below) else 0) + declarators_shed how rest

  abbrev pub declaration_shed : VariableKind → (below : Forest) → ℕ
  declaration_shed how (node declarators n ds rest) = declarators_shed how ds
  declaration_shed how below = 0

  abbrev pub item_shed : Kind → (below : Forest) → ℕ
  item_shed (variable_declaration how) below = declaration_shed how below
  item_shed k below = 0

  abbrev pub shed : Forest → ℕ
  shed nothing = 0
  shed (absent rest) = shed rest
  shed (node k n below rest) = (if item_goes f w k below then m (alone k n below) else item_shed k below) + shed rest

-- ---- items one by one

module _ (f : Facts) (w : Where) where
  abbrev pub is_dead_declarator : VariableKind → Option Tree → Bool
  is_dead_declarator how None = false
  is_dead_declarator how (Some x) = declarator_goes f w how x.kind x.below

  abbrev pub is_dead_item : Option Tree → Bool
  is_dead_item None = false
  is_dead_item (Some x) = item_goes f w x.kind x.below

  abbrev pub is_unused_specifier : Option Tree → Bool
  is_unused_specifier None = false
  is_unused_specifier (Some x) = specifier_goes f w x.kind x.below

  -- of the row without those that go, each without what goes of it
  abbrev pub kept_items : Forest → Forest
  kept_items nothing = nothing
  kept_items (absent rest) = absent (kept_items rest)
  kept_items (node k n below rest) = if item_goes f w k below then kept_items rest else node k n below (kept_items rest)

  abbrev pub each_left : Forest → Forest
  each_left nothing = nothing
  each_left (absent rest) = absent (each_left rest)
  each_left (node k n below rest) = node k n (item_left f w k below) (each_left rest)

  abbrev pub left_of : Option Tree → Option Tree
  left_of None = None
  left_of (Some x) = Some (record { kind = x.kind; note = x.note; below = item_left f w x.kind x.below })

-- ---- what never runs

module _ (m : Forest → ℕ) where
  abbrev pub inert_shed : (jumped : Bool) → Forest → ℕ
  inert_shed jumped nothing = 0
  inert_shed jumped (absent rest) = inert_shed jumped rest
  inert_shed jumped (node k n below rest) = if is_inert jumped k below then m (alone k n below) + inert_shed jumped rest else inert_shed (jumped || cuts_off k below) rest

-- all that leaves a list
module _ (m : Forest → ℕ) (f : Facts) (w : Where) where
  abbrev pub list_shed : Forest → ℕ
  list_shed t = inert_shed m false t + shed m f w (emptied_behind false t)
