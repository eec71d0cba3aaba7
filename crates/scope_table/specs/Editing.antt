-- A table after one edit, as a function of the table before it. A number past the last names nothing, and then nothing changes.
use Rattle.std.specs.Prelude.{◌≡◌, ◌<◌, ℕ, zero, suc, List, [], ◌∷◌, ◌++◌, map, length, Bool, false, not, nat_eq, Option, Some, None, if◌then◌else◌, slice_set}
use Rattle.std.specs.List.{filter, list_any}
use Rattle.std.specs.Str.{bytes_eq}
use Rattle.scope_rules.specs.Table.{Scope, Symbol, Unresolved, Scoping}
use Rattle.scope_table.specs.Named.{with_name}
use Rattle.scope_table.specs.Unbound.{with_use}
use Rattle.scope_table.specs.Reading.{scope_at, symbol_at, ancestors}

-- ---- scopes

abbrev pub new_scope : (parent : Option ℕ) → (flags : ℕ) → Scope
new_scope parent flags = record { parent = parent; flags = flags; bindings = [] }

-- one more scope, which has no names
abbrev pub with_scope : (parent : Option ℕ) → (flags : ℕ) → Scoping → Scoping
with_scope parent flags s = record s { scopes = s.scopes ++ new_scope parent flags ∷ [] }

-- one scope changed
abbrev pub with_scope_as : (scope : ℕ) → (Scope → Scope) → Scoping → Scoping
with_scope_as scope change s = record s { scopes = slice_set s.scopes scope (change (scope_at s scope)) }

abbrev pub with_parent : (scope : ℕ) → (parent : Option ℕ) → Scoping → Scoping
with_parent scope parent s = with_scope_as scope (λ x. record x { parent = parent }) s

abbrev pub with_flags : (scope flags : ℕ) → Scoping → Scoping
with_flags scope flags s = with_scope_as scope (λ x. record x { flags = flags }) s

-- a name bound in a scope: it keeps its place where the scope has it, and comes last otherwise
abbrev pub with_binding : (scope : ℕ) → (name : List ℕ) → (symbol : ℕ) → Scoping → Scoping
with_binding scope name symbol s = with_scope_as scope (with_name name symbol) s

-- ---- symbols

abbrev pub new_symbol : (name : List ℕ) → (flags scope : ℕ) → Symbol
new_symbol name flags scope = record { name = name; flags = flags; scope = scope; redeclarations = []; references = []; is_pure = false }

-- one more symbol, which nothing refers to and no scope binds
abbrev pub with_symbol : (name : List ℕ) → (flags scope : ℕ) → Scoping → Scoping
with_symbol name flags scope s = record s { symbols = s.symbols ++ new_symbol name flags scope ∷ [] }

-- ---- references

-- one more reference, which no list has
abbrev pub with_reference_entry : (scope : ℕ) → (symbol : Option ℕ) → (flags : ℕ) → Scoping → Scoping
with_reference_entry scope symbol flags s = record s { references = s.references ++ record { scope = scope; symbol = symbol; flags = flags } ∷ [] }

-- the numbers that don't pass a test
abbrev pub without : (away : ℕ → Bool) → List ℕ → List ℕ
without away rs = filter (λ r. not (away r)) rs

abbrev pub symbol_without : (away : ℕ → Bool) → Symbol → Symbol
symbol_without away x = record x { references = without away x.references }

abbrev pub name_without : (away : ℕ → Bool) → Unresolved → Unresolved
name_without away u = record u { references = without away u.references }

-- one symbol's list changed
abbrev pub with_list_as : (symbol : ℕ) → (List ℕ → List ℕ) → Scoping → Scoping
with_list_as symbol change s =
    record s { symbols = slice_set s.symbols symbol (record (symbol_at s symbol) { references = change (symbol_at s symbol).references }) }

-- a reference put behind the others of a symbol
abbrev pub listed : (symbol reference : ℕ) → Scoping → Scoping
listed symbol reference s = with_list_as symbol (λ rs. rs ++ reference ∷ []) s

-- and taken out
abbrev pub unlisted : (symbol reference : ℕ) → Scoping → Scoping
unlisted symbol reference s = with_list_as symbol (without (nat_eq reference)) s

-- those that pass a test taken out of the lists of all symbols
abbrev pub pruned : (away : ℕ → Bool) → Scoping → Scoping
pruned away s = record s { symbols = map (symbol_without away) s.symbols }

-- ---- references that nothing declares

-- a reference put behind the others of a name; a name that has no item gets the last
abbrev pub put_use : (name : List ℕ) → (reference : ℕ) → List Unresolved → List Unresolved
put_use name r [] = record { name = name; references = r ∷ [] } ∷ []
put_use name r (u ∷ us) = if bytes_eq u.name name then with_use r u ∷ us else u ∷ put_use name r us

-- and taken out; the name keeps its item
abbrev pub take_use : (name : List ℕ) → (reference : ℕ) → List Unresolved → List Unresolved
take_use name r [] = []
take_use name r (u ∷ us) = if bytes_eq u.name name then name_without (nat_eq r) u ∷ us else u ∷ take_use name r us

abbrev pub listed_unresolved : (name : List ℕ) → (reference : ℕ) → Scoping → Scoping
listed_unresolved name r s = record s { unresolved = put_use name r s.unresolved }

abbrev pub unlisted_unresolved : (name : List ℕ) → (reference : ℕ) → Scoping → Scoping
unlisted_unresolved name r s = record s { unresolved = take_use name r s.unresolved }

-- ---- parents that end

-- a scope is outside another where it is neither that scope nor one around it
abbrev pub IsOutside : Scoping → (scope other : ℕ) → Type 0
IsOutside s scope other = list_any (nat_eq scope) (ancestors s other) ≡ false

-- the scope that many steps up from one, if there is one
abbrev pub up : (steps : ℕ) → Scoping → Option ℕ → Option ℕ
up zero s n = n
up (suc steps) s None = None
up (suc steps) s (Some n) = up steps s (scope_at s n).parent

-- the scope around each is one of the table, and from each the parents end at a scope without one
pub record ParentsEnd (s : Scoping) : Type 0 where
  pub there : (n p : ℕ) → (scope_at s n).parent ≡ Some p → p < length s.scopes
  pub end : (n : ℕ) → (steps : ℕ) × (up steps s (Some n) ≡ None)
