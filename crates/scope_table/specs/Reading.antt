-- What is read of a scoping.
use Rattle.std.specs.Prelude.{ℕ, zero, suc, ◌==◌, List, [], ◌∷◌, Bool, false, Option, Some, None, if◌then◌else◌, length, slice_index_or}
use Rattle.std.specs.Int.RustNames.{bit_and}
use Rattle.std.specs.Str.{bytes_eq}
use Rattle.scope_rules.specs.ReferenceFlags as reference_flag
use Rattle.scope_rules.specs.Table.{Named, Scope, Symbol, Reference, Scoping}

-- ---- what a number names; nothing, past the last

abbrev pub no_scope : Scope
no_scope = record { parent = None; flags = 0; bindings = [] }

abbrev pub no_symbol : Symbol
no_symbol = record { name = []; flags = 0; scope = 0; redeclarations = []; references = []; is_pure = false }

abbrev pub no_reference : Reference
no_reference = record { scope = 0; symbol = None; flags = 0 }

abbrev pub scope_at : Scoping → ℕ → Scope
scope_at s n = slice_index_or s.scopes n no_scope

abbrev pub symbol_at : Scoping → ℕ → Symbol
symbol_at s n = slice_index_or s.symbols n no_symbol

abbrev pub reference_at : Scoping → ℕ → Reference
reference_at s n = slice_index_or s.references n no_reference

abbrev pub is_write : Reference → Bool
is_write r = bit_and r.flags reference_flag.write == reference_flag.write

-- ---- names, from a scope up

abbrev pub symbol_named : List ℕ → List Named → Option ℕ
symbol_named x [] = None
symbol_named x (n ∷ ns) = if bytes_eq x n.name then Some n.symbol else symbol_named x ns

-- a scope, the one around it and so on, that many at most
abbrev pub scopes_up : (most : ℕ) → Scoping → Option ℕ → List ℕ
scopes_up zero s n = []
scopes_up (suc most) s None = []
scopes_up (suc most) s (Some n) = n ∷ scopes_up most s (scope_at s n).parent

-- A chain that closes in no circle has each scope once at most, so it has no more of them than the table, in whatever
-- order they are numbered.
abbrev pub ancestors : Scoping → ℕ → List ℕ
ancestors s n = scopes_up (length s.scopes) s (Some n)

abbrev pub first_of : Option ℕ → Option ℕ → Option ℕ
first_of None n = n
first_of (Some m) n = Some m

abbrev pub binding_among : Scoping → List ℕ → (scopes : List ℕ) → Option ℕ
binding_among s x [] = None
binding_among s x (n ∷ ns) = first_of (symbol_named x (scope_at s n).bindings) (binding_among s x ns)

abbrev pub binding_of : Scoping → (scope : ℕ) → List ℕ → Option ℕ
binding_of s scope x = binding_among s x (ancestors s scope)

-- ---- symbols without side effects

abbrev pub pure_from : (next : ℕ) → List Symbol → List ℕ
pure_from next [] = []
pure_from next (s ∷ ss) = if s.is_pure then next ∷ pure_from (suc next) ss else pure_from (suc next) ss
