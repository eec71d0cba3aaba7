-- Scopes around one another.
use Rattle.std.specs.Prelude.{◌≡◌, ℕ, List, [], ◌∷◌, ◌++◌, None}
use Rattle.scope_rules.specs.Table.{Scoping}
use Rattle.scope_table.specs.Reading.{scope_at}

-- the last of some scopes has none around it
pub record EndsOnTop (s : Scoping) (scopes : List ℕ) : Type 0 where
  pub front : List ℕ
  pub top : ℕ
  pub parts : scopes ≡ front ++ top ∷ []
  pub no_parent : (scope_at s top).parent ≡ None
