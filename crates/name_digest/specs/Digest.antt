-- A number of a text, and of one that it begins with.
use Rattle.std.specs.Prelude.{ℕ, List, [], ◌∷◌, ◌+◌, ◌*◌, ◌^◌, ◌%◌}

abbrev pub digest_from : (start : ℕ) → (text : List ℕ) → ℕ
digest_from d [] = d
digest_from d (b ∷ bs) = digest_from (((d * 31) % 2 ^ 64 + b) % 2 ^ 64) bs
