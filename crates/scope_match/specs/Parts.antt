-- Parts of what is compared.
use Rattle.std.specs.Prelude.{◌≡◌, ℕ, List, map, length, Some}
use Rattle.scope_rules.specs.Site.{ScopeSite, BindingSite, ReferenceSite, Found}
use Rattle.scope_rules.specs.Table.{Scoping, symbol_declared, number_or_none}
use Rattle.scope_laws.specs.Exact.{NoneTwice}
use Rattle.scope_table.specs.Reading.{symbol_at}
use Rattle.scope_match.specs.Matches.{Marks, mark_at}

-- each scope, declaration and reference has a mark, declarations that of their symbol, of which there are that many
pub record HaveMarks (f : Found) (m : Marks) (count : ℕ) : Type 0 where
  pub scopes : map (λ (s : ScopeSite). s.id) f.scopes ≡ map (λ (s : ScopeSite). Some (number_or_none s.id)) f.scopes
  pub references : map (λ (r : ReferenceSite). r.id) f.references ≡ map (λ (r : ReferenceSite). Some (number_or_none r.id)) f.references
  pub declarations : map (λ (b : BindingSite). b.id) f.bindings ≡ map (λ (b : BindingSite). Some (mark_at m.symbols (number_or_none (symbol_declared f.bindings b)))) f.bindings
  pub symbols : length m.symbols ≡ count

pub record AreApart (m : Marks) : Type 0 where
  pub scopes : NoneTwice m.scopes
  pub symbols : NoneTwice m.symbols
  pub references : NoneTwice m.references

-- all but the references of a symbol, where `scopes` are the marks of the scopes
pub record SameHead (scopes : List ℕ) (s : Scoping) (given : ℕ) (t : Scoping) (number : ℕ) : Type 0 where
  pub name : (symbol_at s given).name ≡ (symbol_at t number).name
  pub flags : (symbol_at s given).flags ≡ (symbol_at t number).flags
  pub scope : (symbol_at s given).scope ≡ mark_at scopes (symbol_at t number).scope
  pub is_pure : (symbol_at s given).is_pure ≡ (symbol_at t number).is_pure
  pub redeclarations : (symbol_at s given).redeclarations ≡ (symbol_at t number).redeclarations
