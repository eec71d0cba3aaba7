-- Sets of numbers below a capacity, as contracts see them: a Boolean for each number from 0 on, whether it is in the set. The capacity is their count.
use Rattle.std.specs.Prelude.{ℕ, ◌+◌, Bool, true, false, not, cond, List, [], ◌∷◌, drop, replicate, slice_index_or, slice_set}
use Rattle.std.specs.List.{list_any}

-- whether a number is in a set; past the capacity none is
abbrev pub has : List Bool → ℕ → Bool
has set n = slice_index_or set n false

-- whether a set has no number
abbrev pub is_none : List Bool → Bool
is_none set = not (list_any (λ held. held) set)

-- a set with a number put into it, and with it taken out; past the capacity the set as it is
abbrev pub with_number : ℕ → List Bool → List Bool
with_number n set = slice_set set n true

abbrev pub without_number : ℕ → List Bool → List Bool
without_number n set = slice_set set n false

-- the set of a capacity that has no number
abbrev pub none_below : ℕ → List Bool
none_below capacity = replicate capacity false

-- the numbers in a set, in rising order, where its first Boolean is that of the number first
abbrev pub numbers_from : ℕ → List Bool → List ℕ
numbers_from first [] = []
numbers_from first (held ∷ set) = cond held (first ∷ numbers_from (first + 1) set) (numbers_from (first + 1) set)

-- all of them
abbrev pub numbers : List Bool → List ℕ
numbers set = numbers_from 0 set

-- those from a number on
abbrev pub numbers_past : ℕ → List Bool → List ℕ
numbers_past first set = numbers_from first (drop first set)
