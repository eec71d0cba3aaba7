-- That the scopes of a table stand in one another as the nodes of a tree do that make them.
use Rattle.std.specs.Prelude.{◌≡◌, ◌≤◌, ℕ, List, [], ◌++◌, true, Option, Some, None, if◌then◌else◌}
use Rattle.std.specs.Option.{option_to_list}
use Rattle.js_syntax.specs.declared.node_kind.NodeKind.{NodeKind as Kind}
use Rattle.js_syntax.specs.Node.{Forest, Note, nothing, node, absent}
use Rattle.scope_rules.specs.Context.{opens}
use Rattle.scope_rules.specs.Table.{Scoping}
use Rattle.scope_table.specs.Reading.{scope_at}
use Rattle.scope_counts.specs.Exact.{count}
use Rattle.steps.specs.Marked.Flags.{is_within}
use Rattle.rules.specs.Told.Places.{EachPlace}

-- the mark of the node that makes the scope in which a child stands, from that of its parent
abbrev pub scope_inside : Option ℕ → Kind → Note → (below : Forest) → (at : ℕ) → Option ℕ
scope_inside around k n below at = if is_within k below at then n.id else around

-- the mark is of a scope whose parent is the mark of the scope around
pub record IsScopeIn (s : Scoping) (around : Option ℕ) (n : Note) : Type 0 where
  pub number : ℕ
  pub is_marked : n.id ≡ Some number
  pub parent : (scope_at s number).parent ≡ around

-- the marks of the nodes that make a scope
abbrev pub own_scope : Kind → Note → (below : Forest) → List ℕ
own_scope k n below = if opens k below then option_to_list n.id else []

abbrev pub scope_marks : Forest → List ℕ
scope_marks nothing = []
scope_marks (absent rest) = scope_marks rest
scope_marks (node k n below rest) = own_scope k n below ++ (scope_marks below ++ scope_marks rest)

-- where the node makes a scope
abbrev pub NestsAt : Scoping → (around : Option ℕ) → Kind → Note → (below : Forest) → Type 0
NestsAt s around k n below = opens k below ≡ true → IsScopeIn s around n

-- of a program, which stands in no scope
pub record ScopesNest (s : Scoping) (t : Forest) : Type 0 where
  pub nested : EachPlace scope_inside (NestsAt s) (λ at. None) 0 t
  -- no two nodes have one mark
  pub once : (n : ℕ) → count n (scope_marks t) ≤ 1
