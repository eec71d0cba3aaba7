-- What maps know of all declarations.
use Rattle.std.specs.Prelude.{◌≡◌, ℕ, List}
use Rattle.scope_rules.specs.declared.layer.Layer.{Layer}
use Rattle.scope_rules.specs.Site.{BindingSite}
use Rattle.scope_rules.specs.Binding.{Binding, is_declared}
use Rattle.scope_rules.specs.Table.{symbol_of, symbols_of}
use Rattle.scope_names.specs.declared.places.Places.{Places}
use Rattle.scope_names.specs.declared.numbers.Numbers.{Numbers}
use Rattle.scope_names.specs.Places.{is_placed}
use Rattle.scope_names.specs.Numbers.{number_at}

pub record AreIndexed (sites : List BindingSite) (places : Places) (numbers : Numbers) (firsts : List Binding) : Type 0 where
  pub placed : (l : Layer) (q : List ℕ) → is_placed places l q ≡ is_declared sites l q
  pub numbered : (q : Binding) → number_at numbers q ≡ symbol_of sites q
  pub listed : firsts ≡ symbols_of sites
