-- The scopes inside some nodes, and what it is to put them into another.
use Rattle.std.specs.Prelude.{ℕ, ◌<◌, List, [], ◌∷◌, ◌++◌, length, Some, if◌then◌else◌}
use Rattle.std.specs.Option.{option_to_list}
use Rattle.std.specs.List.{All}
use Rattle.js_syntax.specs.Node.{Forest, nothing, node, absent}
use Rattle.scope_rules.specs.Context.{opens}
use Rattle.scope_rules.specs.Table.{Scoping}
use Rattle.scope_table.specs.Editing.{with_scope, with_parent, IsOutside}

-- those of the nodes that make a scope and stand in no other such node, in reading order
abbrev pub outermost : Forest → List ℕ
outermost nothing = []
outermost (absent rest) = outermost rest
outermost (node k n below rest) = (if opens k below then option_to_list n.id else outermost below) ++ outermost rest

-- some scopes put into one, with all that is inside them
abbrev pub with_parents : (scopes : List ℕ) → (parent : ℕ) → Scoping → Scoping
with_parents [] parent s = s
with_parents (scope ∷ scopes) parent s = with_parents scopes parent (with_parent scope (Some parent) s)

-- they are scopes of the table, and the one that they are put into is none of them and not inside them
abbrev pub MayMove : (scopes : List ℕ) → (parent : ℕ) → Scoping → Type 0
MayMove scopes parent s = All (λ scope. (scope < length s.scopes) × IsOutside s scope parent) scopes

-- a new scope inside one, around some
abbrev pub with_scope_around : (scopes : List ℕ) → (parent flags : ℕ) → Scoping → Scoping
with_scope_around scopes parent flags s = with_parents scopes (length s.scopes) (with_scope (Some parent) flags s)
