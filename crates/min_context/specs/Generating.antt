-- Names and references that the context makes.
use Rattle.std.specs.Prelude.{ℕ, List, Option, Some}
use Rattle.js_syntax.specs.declared.node_kind.NodeKind.{NodeKind as Kind}
use Rattle.js_syntax.specs.declared.scalar.Span.{Span}
use Rattle.js_syntax.specs.Node.{Tree, nothing}
use Rattle.scope_table.specs.Making.{with_bound_symbol}
use Rattle.js_traverse.specs.Traversed.{known_in, with_reference_to}
use Rattle.fresh_names.specs.Uid.{fresh_name, with_fresh}
use Rattle.min_context.specs.Seen.{Seen, traversed}

-- the name that is made of one
abbrev pub fresh : List ℕ → Seen → List ℕ
fresh name c = fresh_name name (known_in (traversed c))

-- a symbol more, of that name, bound in the scope
abbrev pub with_uid : (name : List ℕ) → (flags scope : ℕ) → Seen → Seen
with_uid name flags scope c = record c { uids = Some (with_fresh name (known_in (traversed c))); scoping = with_bound_symbol (fresh name c) flags scope c.scoping }

-- a name that refers, with the number of its reference
abbrev pub a_reference : (name : List ℕ) → Span → (id : ℕ) → Tree
a_reference name span id = record { kind = Kind.ReferenceName name; note = record { span = span; id = Some id }; below = nothing }

-- a reference more in the scope around, to the symbol, or to the name if there is none
abbrev pub with_reference : (name : List ℕ) → (symbol : Option ℕ) → (flags : ℕ) → Seen → Seen
with_reference name symbol flags c = record c { scoping = with_reference_to c.place.scope name symbol flags c.scoping }
