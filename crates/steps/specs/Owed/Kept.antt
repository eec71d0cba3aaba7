-- What becomes of a table while things leave its tree.
use Rattle.std.specs.Prelude.{◌≡◌, ℕ, slice_get, Some}
use Rattle.js_syntax.specs.Node.{Forest}
use Rattle.scope_rules.specs.Site.{ScopeSite, BindingSite, sites_of, scopes_among, bindings_among}
use Rattle.scope_rules.specs.Table.{Symbol, Scoping}
use Rattle.scope_table.specs.Reading.{scope_at, symbol_at}
use Rattle.scope_laws.specs.Exact.{Among, Exact}
pub use Rattle.steps.specs.Fit.Sensible.{is_program}

-- the symbol had the references that it has, and maybe more
pub record HadMore (before : Scoping) (number : ℕ) (now : Symbol) : Type 0 where
  pub symbol : Symbol
  pub stood : slice_get before.symbols number ≡ Some symbol
  pub listed : (id : ℕ) → Among id now.references → Among id symbol.references

-- the entries are the same, and no list is longer
pub record Shortens (before now : Scoping) : Type 0 where
  pub same_entries : now.references ≡ before.references
  pub symbols : (number : ℕ) (symbol : Symbol) → slice_get now.symbols number ≡ Some symbol → HadMore before number symbol

-- the table, with shorter lists, is exact for the tree that is there now
pub record IsKept (s : Scoping) (t : Forest) : Type 0 where
  pub table : Scoping
  pub shortens : Shortens s table
  pub exact : Exact table t

-- the table tells the flags of each scope, and in which scope each declaration's symbol lies
pub record TellsScopes (s : Scoping) (t : Forest) : Type 0 where
  pub flags : (n : ℕ) (x : ScopeSite) → slice_get (scopes_among (sites_of t)) n ≡ Some x → (scope_at s n).flags ≡ x.flags
  pub scopes : (b : BindingSite) → Among b (bindings_among (sites_of t)) → (id : ℕ) → b.id ≡ Some id → (symbol_at s id).scope ≡ b.layer.scope
