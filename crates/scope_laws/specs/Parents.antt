-- That a scope stands behind the one around it.
use Rattle.std.specs.Prelude.{ℕ, suc, ◌<◌, List, [], ◌∷◌, Option, Some, None}

-- a number below this one, or none
abbrev pub IsBefore : ℕ → Option ℕ → Type 0
IsBefore n None = Unit {0}
IsBefore n (Some p) = p < n

-- of scopes in order, the first of which has the number `next`, by the scopes around them
abbrev pub AreBefore : (next : ℕ) → List (Option ℕ) → Type 0
AreBefore next [] = Unit {0}
AreBefore next (p ∷ ps) = IsBefore next p × AreBefore (suc next) ps
