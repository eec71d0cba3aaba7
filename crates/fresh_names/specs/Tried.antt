-- Rows of calls, as they are tried.
use Rattle.std.specs.Prelude.{ℕ, List, [], map}
use Rattle.fresh_names.specs.Uid.{with_names}
use Rattle.fresh_names.specs.Fresh.{create, names_of}

-- what is answered to some names, where others are taken
abbrev pub answers : (taken asked : List (List ℕ)) → List (List ℕ)
answers taken asked = names_of (map (λ name. create name) asked) (with_names taken [])
