-- What is carried through a walk that changes a tree, after each call as a function of what it was.
use Rattle.std.specs.Prelude.{ℕ, ◌<◌, List, [], Option, Some, None, unwrap_or, length, IfSome}
use Rattle.scope_rules.specs.Table.{Scoping}
use Rattle.scope_table.specs.Reading.{reference_at}
use Rattle.scope_table.specs.Editing.{with_scope, with_parent, unlisted, unlisted_unresolved}
use Rattle.scope_table.specs.Making.{with_bound_reference, with_unbound_reference}
use Rattle.fresh_names.specs.Uid.{Uid, names_in, with_names}

pub record Traversed : Type 0 where
  pub scoping : Scoping
  -- what is known of names that are taken, from the first fresh one on
  pub uids : Option (List Uid)
  -- the scope that the walk is in, the one that `var` declares in, and the one that `let` does
  pub current : ℕ
  pub hoist : ℕ
  pub block : ℕ

abbrev pub begun : Scoping → Traversed
begun s = record { scoping = s; uids = None; current = 0; hoist = 0; block = 0 }

-- names that are bound after the first fresh one are not told
abbrev pub known_in : Traversed → List Uid
known_in t = unwrap_or t.uids (with_names (names_in t.scoping) [])

-- ---- scopes

-- a new scope between a scope and the one around it
abbrev pub with_scope_between : (parent child flags : ℕ) → Scoping → Scoping
with_scope_between parent child flags s = with_parent child (Some (length s.scopes)) (with_scope (Some parent) flags s)

-- ---- references

-- to a symbol, or to a name that nothing declares
abbrev pub with_reference_to : (scope : ℕ) → (name : List ℕ) → (symbol : Option ℕ) → (flags : ℕ) → Scoping → Scoping
with_reference_to scope name None flags s = with_unbound_reference scope name flags s
with_reference_to scope name (Some symbol) flags s = with_bound_reference scope symbol flags s

abbrev pub unlisted_from : (symbol : Option ℕ) → (name : List ℕ) → (reference : ℕ) → Scoping → Scoping
unlisted_from None name reference s = unlisted_unresolved name reference s
unlisted_from (Some symbol) name reference s = unlisted symbol reference s

-- a reference that is taken out of the list that has it
abbrev pub with_reference_deleted : (reference : ℕ) → (name : List ℕ) → Scoping → Scoping
with_reference_deleted reference name s = unlisted_from (reference_at s reference).symbol name reference s

-- a symbol, where there is one, is one of the table
abbrev pub IsLive : Scoping → (symbol : Option ℕ) → Type 0
IsLive s symbol = IfSome symbol (λ n. n < length s.symbols)
