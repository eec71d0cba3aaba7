-- Names of scopes in memory as definitions have them, and as they are put in.
use Rattle.std.specs.Prelude.{ℕ, suc, List, [], ◌∷◌, String, if◌then◌else◌}
use Rattle.std.specs.String.{string_bytes}
use Rattle.std.specs.Global.{Global}
use Rattle.std.specs.Str.{bytes_eq}
use Rattle.js_syntax.specs.declared.scalar.SymbolId.{SymbolId}
use Rattle.scope_rules.specs.Site.{ScopeSite}
use Rattle.scope_rules.specs.Binding.{Binding}
use Rattle.scope_rules.specs.Table.{Named, Scope, names_from}

abbrev pub named : String Global × SymbolId → Named
named e = record { name = string_bytes e.0; symbol = e.1.0 }

abbrev pub blank_scope : ScopeSite → Scope
blank_scope s = record { parent = s.parent; flags = s.flags; bindings = [] }

-- a name that is there takes the new symbol
abbrev pub put_name : List ℕ → (symbol : ℕ) → List Named → List Named
put_name x symbol [] = record { name = x; symbol = symbol } ∷ []
put_name x symbol (n ∷ ns) = if bytes_eq x n.name then record { name = n.name; symbol = symbol } ∷ ns else n ∷ put_name x symbol ns

abbrev pub with_name : List ℕ → (symbol : ℕ) → Scope → Scope
with_name x symbol s = record { parent = s.parent; flags = s.flags; bindings = put_name x symbol s.bindings }

-- the scopes with those of their names that are among some symbols
abbrev pub scopes_named : (all some : List Binding) → (next : ℕ) → List ScopeSite → List Scope
scopes_named all some next [] = []
scopes_named all some next (s ∷ ss) = record { parent = s.parent; flags = s.flags; bindings = names_from all next 0 some } ∷ scopes_named all some (suc next) ss
