-- What is answered of each number below a count, and of each reference whether it has a symbol.
use Rattle.std.specs.Prelude.{ℕ, zero, suc, List, [], ◌∷◌, ◌++◌, length, Bool, is_some}
use Rattle.scope_rules.specs.Table.{Scoping}
use Rattle.scope_table.specs.Reading.{reference_at}

abbrev pub answers : (ℕ → Bool) → (count : ℕ) → List Bool
answers asks zero = []
answers asks (suc count) = answers asks count ++ asks count ∷ []

abbrev pub is_bound : Scoping → (reference : ℕ) → Bool
is_bound s reference = is_some (reference_at s reference).symbol

abbrev pub bound_of : Scoping → List Bool
bound_of s = answers (is_bound s) (length s.references)
