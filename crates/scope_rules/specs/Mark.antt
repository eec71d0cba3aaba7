-- How a tree's nodes are marked: a node that makes a scope, or is a reference, with its number, in order of places; a name that
-- is declared with the number of its symbol. No other node has a mark.
use Rattle.std.specs.Prelude.{ℕ, ◌+◌, List, [], ◌∷◌, drop, Option, Some, None, if◌then◌else◌}
use Rattle.js_syntax.specs.declared.node_kind.NodeKind.{NodeKind as Kind}
use Rattle.js_syntax.specs.declared.node_kind.NodeKind.TheVariants.{BindingName as binding_name, ReferenceName as reference_name, TargetName as target_name}
use Rattle.js_syntax.specs.Node.{Forest, nothing, node, absent, total}
use Rattle.scope_rules.specs.Context.{opens}
use Rattle.scope_rules.specs.Site.{opens_one, scope_count}

-- the next numbers, and the symbols of the declarations to come
pub record Marks : Type 0 where
  pub scope : ℕ
  pub reference : ℕ
  pub symbols : List ℕ

abbrev pub own_reference : Kind → ℕ
own_reference (reference_name x) = 1
own_reference (target_name x) = 1
own_reference k = 0

abbrev pub own_binding : Kind → ℕ
own_binding (binding_name x) = 1
own_binding k = 0

abbrev pub first_symbol : List ℕ → Option ℕ
first_symbol [] = None
first_symbol (s ∷ ss) = Some s

abbrev pub name_mark : Marks → Kind → Option ℕ
name_mark m (binding_name x) = first_symbol m.symbols
name_mark m (reference_name x) = Some m.reference
name_mark m (target_name x) = Some m.reference
name_mark m k = None

abbrev pub mark_of : Marks → Kind → (below : Forest) → Option ℕ
mark_of m k below = if opens k below then Some m.scope else name_mark m k

-- those that are left behind a node, without what lies below it, and behind a row
abbrev pub behind_node : Marks → Kind → (below : Forest) → Marks
behind_node m k below = record { scope = m.scope + opens_one k below; reference = m.reference + own_reference k; symbols = drop (own_binding k) m.symbols }

abbrev pub behind_row : Marks → Forest → Marks
behind_row m t = record { scope = m.scope + scope_count t; reference = m.reference + total own_reference t; symbols = drop (total own_binding t) m.symbols }

abbrev pub marked : Marks → Forest → Forest
marked m nothing = nothing
marked m (absent rest) = absent (marked m rest)
marked m (node k n below rest) =
    node k (record { span = n.span; id = mark_of m k below }) (marked (behind_node m k below) below) (marked (behind_row m (node k n below nothing)) rest)

-- a whole tree, whose declarations have these symbols
abbrev pub first_marks : List ℕ → Marks
first_marks symbols = record { scope = 0; reference = 0; symbols = symbols }
