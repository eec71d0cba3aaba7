-- The numbers that a set lists are those that are in it, in rising order.
use Rattle.std.proofs.Common.{◌≡◌, ◌↔◌, ℕ, zero, suc, refl, sym, ◌<◌, ◌≤◌, ◌+◌, Bool, true, false, List, [], ◌∷◌, length, IsTrue, arith}
use Rattle.std.specs.List.{All, AllPairs, Contains}
use Rattle.std.proofs.lemmas.List.Elements.{Contains-get_or}
use Rattle.std.proofs.lemmas.List.Kept.{AllPairs-cons}
use Rattle.symbol_sets.specs.Numbers.{has, is_none, numbers, numbers_from}

contains_first : (x : ℕ) (xs : List ℕ) → Contains (x ∷ xs) x
contains_first x xs = (0, Prim.omega arith, refl)

contains_later : (x y : ℕ) (xs : List ℕ) → Contains xs x → Contains (y ∷ xs) x
contains_later x y xs (k, below, is) = (suc k, Prim.omega (arith, below), is)

contains_which : {P : Type 0} (x y : ℕ) (xs : List ℕ) → Contains (y ∷ xs) x → (y ≡ x → P) → (Contains xs x → P) → P
contains_which x y xs (zero, below, is) first later = first is
contains_which x y xs (suc k, below, is) first later = later (k, Prim.omega (arith, below), is)

-- what is listed is in the set
in_set : (set : List Bool) (first n : ℕ) → Contains (numbers_from first set) n → (k : ℕ) × (first + k ≡ n) × IsTrue (has set k)
in_set [] first n (k, below, is) = absurd (Prim.omega (arith, below))
in_set (true ∷ set) first n listed = contains_which n first (numbers_from (first + 1) set) listed (λ e. (0, Prim.omega (arith, e), refl)) (λ later. let at = in_set set (first + 1) n later in (suc at.0, Prim.omega (arith, at.1), at.2))
in_set (false ∷ set) first n listed = let at = in_set set (first + 1) n listed in (suc at.0, Prim.omega (arith, at.1), at.2)

-- what is in the set is listed
is_listed : (set : List Bool) (first k n : ℕ) → first + k ≡ n → IsTrue (has set k) → Contains (numbers_from first set) n
is_listed [] first k n e h = absurd cc
is_listed (true ∷ set) first zero n e h = let same : first ≡ n = Prim.omega (arith, e) in rw (sym same) (contains_first first (numbers_from (first + 1) set))
is_listed (false ∷ set) first zero n e h = absurd cc
is_listed (true ∷ set) first (suc k) n e h = contains_later n first (numbers_from (first + 1) set) (is_listed set (first + 1) k n (Prim.omega (arith, e)) h)
is_listed (false ∷ set) first (suc k) n e h = is_listed set (first + 1) k n (Prim.omega (arith, e)) h

pub members : (set : List Bool) (n : ℕ) → Contains (numbers set) n ↔ IsTrue (has set n)
members set n = (λ listed. let at = in_set set 0 n listed in let same : at.0 ≡ n = Prim.omega (arith, at.1) in rw (sym same) at.2, λ h. is_listed set 0 n n (Prim.omega arith) h)

-- all that are listed behind a number are greater
all_past : (set : List Bool) (first : ℕ) → All (λ n. first < n) (numbers_from (first + 1) set)
all_past set first = λ k d h. let at = in_set set (first + 1) _ (Contains-get_or (numbers_from (first + 1) set) k d h) in Prim.omega (arith, at.1)

rising_from : (set : List Bool) (first : ℕ) → AllPairs (λ m n. m < n) (numbers_from first set)
rising_from [] first = λ i j d below within. absurd (Prim.omega (arith, within))
rising_from (true ∷ set) first = AllPairs-cons (λ m n. m < n) first (numbers_from (first + 1) set) (all_past set first) (rising_from set (first + 1))
rising_from (false ∷ set) first = rising_from set (first + 1)

pub rising : (set : List Bool) → AllPairs (λ m n. m < n) (numbers set)
rising set = rising_from set 0

none_from : (set : List Bool) (first : ℕ) → (numbers_from first set ≡ []) ↔ IsTrue (is_none set)
none_from [] first = (λ h. refl, λ h. refl)
none_from (true ∷ set) first = (λ h. absurd cc, λ h. absurd cc)
none_from (false ∷ set) first = none_from set (first + 1)

pub none : (set : List Bool) → (numbers set ≡ []) ↔ IsTrue (is_none set)
none set = none_from set 0

-- as many numbers at most as the set has Booleans
few_from : (set : List Bool) (first : ℕ) → length (numbers_from first set) ≤ length set
few_from [] first = Prim.omega arith
few_from (true ∷ set) first = Prim.omega (arith, few_from set (first + 1))
few_from (false ∷ set) first = Prim.omega (arith, few_from set (first + 1))

pub few : (set : List Bool) → length (numbers set) ≤ length set
few set = few_from set 0
