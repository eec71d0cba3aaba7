-- Words of a list, sought by a number that a name makes.
use Rattle.std.specs.Prelude.{ℕ, zero, suc, List, [], ◌∷◌, Bool, false, ◌+◌, ◌*◌, ◌%◌, if◌then◌else◌, length, get_or, nat_lt}
use Rattle.std.specs.Str.{bytes_eq}

-- by its length and its first two bytes
abbrev pub word_number : List ℕ → ℕ
word_number s = if nat_lt (length s) 2 then 0 else ((length s % 128 * 3 + (get_or s 0 0 + get_or s 1 0) * 4) % 128)

-- whether a name is the word at a place of a list
abbrev pub is_word_at : List (List ℕ) → ℕ → List ℕ → Bool
is_word_at [] i s = false
is_word_at (w ∷ ws) zero s = bytes_eq s w
is_word_at (w ∷ ws) (suc i) s = is_word_at ws i s
