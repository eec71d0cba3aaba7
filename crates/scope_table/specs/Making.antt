-- Edits of a table that belong together.
use Rattle.std.specs.Prelude.{ℕ, List, Some, None, length}
use Rattle.scope_rules.specs.Table.{Scoping}
use Rattle.scope_table.specs.Editing.{with_symbol, with_binding, with_reference_entry, listed, listed_unresolved}

-- one more symbol, which its scope binds
abbrev pub with_bound_symbol : (name : List ℕ) → (flags scope : ℕ) → Scoping → Scoping
with_bound_symbol name flags scope s = with_binding scope name (length s.symbols) (with_symbol name flags scope s)

-- one more reference, which its symbol's list has, or that of its name
abbrev pub with_bound_reference : (scope symbol flags : ℕ) → Scoping → Scoping
with_bound_reference scope symbol flags s = listed symbol (length s.references) (with_reference_entry scope (Some symbol) flags s)

abbrev pub with_unbound_reference : (scope : ℕ) → (name : List ℕ) → (flags : ℕ) → Scoping → Scoping
with_unbound_reference scope name flags s = listed_unresolved name (length s.references) (with_reference_entry scope None flags s)
