-- Operations of which nobody takes the value.
use Rattle.std.specs.Prelude.{ℕ, zero, suc, Option, None, Some, if◌then◌else◌}
use Rattle.js_syntax.specs.declared.node_kind.NodeKind.{NodeKind as Kind}
use Rattle.js_syntax.specs.Node.{Forest, Tree, nothing, node, absent}
use Rattle.min_traverse.specs.Lawful.{Rule, or_same}
use Rattle.scope_laws.specs.Place as places
use Rattle.steps.specs.Allowed.UnusedOperation.{needed_at, UnusedOperation}
use Rattle.rules.specs.Expressions.Uses.{Spot, spot_of}

-- what is left of a node by what is left of its children, by their index
abbrev pub left_of_node : Tree → Option ℕ → (ℕ → Option Tree) → Tree
left_of_node x None left = x
left_of_node x (Some i) left = or_same x (left i)

-- What is left of the child at an index: of an operation the operand that is needed, and of that again.
abbrev pub left_at : ℕ → Forest → Option Tree
left_at i nothing = None
left_at zero (absent rest) = None
left_at (suc i) (absent rest) = left_at i rest
left_at zero (node k n below rest) = Some (left_of_node (record { kind = k; note = n; below = below }) (needed_at k below) (λ j. left_at j below))
left_at (suc i) (node k n below rest) = left_at i rest

abbrev pub left_below : Option ℕ → (parts : Forest) → Option Tree
left_below None parts = None
left_below (Some i) parts = left_at i parts

abbrev pub unused_becomes : Spot → Kind → (parts : Forest) → Option Tree
unused_becomes s k parts = if s.is_unused then left_below (needed_at k parts) parts else None

-- ---- as a rule of a walk

abbrev pub fold_unused : Rule
fold_unused c x = unused_becomes (spot_of c.place) x.kind x.below

-- ---- as edits

-- one edit or more of one node, one after the other
pub data UnusedOperations (a : places.Around) : (x y : Tree) → Type 0 where
  last : {x y : Tree} → UnusedOperation a x y → UnusedOperations a x y
  one_more : {x z : Tree} (y : Tree) → UnusedOperation a x y → UnusedOperations a y z → UnusedOperations a x z
