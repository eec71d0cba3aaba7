-- Items that are numbered by their places.
use Rattle.std.specs.Prelude.{ℕ, suc, List, [], ◌∷◌, Option, if◌then◌else◌}
use Rattle.scope_rules.specs.Table.{is_number}

-- the items, of which the one with this number is changed; the first has the number `next`
abbrev pub at_number : {X : Type 0} (change : X → X) → Option ℕ → (next : ℕ) → List X → List X
at_number change number next [] = []
at_number change number next (x ∷ xs) = (if is_number next number then change x else x) ∷ at_number change number (suc next) xs
