-- That a table has the scopes of declarations.
use Rattle.std.specs.Prelude.{◌≡◌, ℕ, slice_get, Some}
use Rattle.js_syntax.specs.Node.{Forest}
use Rattle.scope_rules.specs.Site.{BindingSite, sites_of, bindings_among}
use Rattle.scope_rules.specs.Table.{Symbol, Scoping}
use Rattle.scope_laws.specs.Exact.{Among}

-- the declaration is marked with a symbol of the table, of the scope that it declares in
pub record IsPlaced (s : Scoping) (b : BindingSite) : Type 0 where
  pub number : ℕ
  pub symbol : Symbol
  pub is_marked : b.id ≡ Some number
  pub stands : slice_get s.symbols number ≡ Some symbol
  pub same_scope : symbol.scope ≡ b.layer.scope

-- so is each declaration of the tree
abbrev pub ArePlaced : Scoping → Forest → Type 0
ArePlaced s t = (b : BindingSite) → Among b (bindings_among (sites_of t)) → IsPlaced s b
