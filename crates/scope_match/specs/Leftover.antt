-- Symbols that edits have left in a table without a declaration.
use Rattle.std.specs.Prelude.{◌≡◌, ◌⊎◌, ℕ, List, [], ◌∷◌, slice_get, Some, false}
use Rattle.js_syntax.specs.Node.{Forest, nothing}
use Rattle.scope_rules.specs.Site.{BindingSite}
use Rattle.scope_rules.specs.Table.{Symbol, Scoping}
use Rattle.scope_laws.specs.Exact.{Among}

-- a declaration is marked with the number
pub record IsMarked (bs : List BindingSite) (number : ℕ) : Type 0 where
  pub declaration : BindingSite
  pub stands : Among declaration bs
  pub is_marked : declaration.id ≡ Some number

-- a symbol that no declaration is marked with has no references
abbrev pub LeavesNothing : Scoping → List BindingSite → Type 0
LeavesNothing s bs = (number : ℕ) (symbol : Symbol) → slice_get s.symbols number ≡ Some symbol → IsMarked bs number ⊎ (symbol.references ≡ [])

-- ---- no program at all, and a table whose only symbol lists a reference

abbrev pub no_program : Forest
no_program = nothing

abbrev pub one_left : Scoping
one_left = record {
  scopes = [];
  symbols = record { name = []; flags = 0; scope = 0; redeclarations = []; references = 0 ∷ []; is_pure = false } ∷ [];
  references = [];
  unresolved = [];
}
