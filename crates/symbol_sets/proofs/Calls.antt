-- What calls do to a set.
use Rattle.std.proofs.Common.{◌≡◌, ◌↔◌, ℕ, zero, suc, refl, ap, ◌<◌, Bool, true, false, List, [], ◌∷◌, length, slice_set, IsTrue, IsFalse, arith}
use Rattle.symbol_sets.specs.Numbers.{has, is_none, with_number, without_number, none_below}

pub put_in : (set : List Bool) (n : ℕ) → IsTrue (has (with_number n set) n) ↔ (n < length set)
put_in [] n = (λ h. absurd cc, λ h. absurd (Prim.omega (arith, h)))
put_in (held ∷ set) zero = (λ h. Prim.omega arith, λ h. refl)
put_in (held ∷ set) (suc n) = let step = put_in set n in (λ h. Prim.omega (arith, step.0 h), λ h. step.1 (Prim.omega (arith, h)))

pub taken_out : (set : List Bool) (n : ℕ) → IsFalse (has (without_number n set) n)
taken_out [] n = refl
taken_out (held ∷ set) zero = refl
taken_out (held ∷ set) (suc n) = taken_out set n

-- two numbers may be given one answer in either order
pub either_order : (answer : Bool) (set : List Bool) (m n : ℕ) → slice_set (slice_set set n answer) m answer ≡ slice_set (slice_set set m answer) n answer
either_order answer [] m n = refl
either_order answer (held ∷ set) zero zero = refl
either_order answer (held ∷ set) zero (suc n) = refl
either_order answer (held ∷ set) (suc m) zero = refl
either_order answer (held ∷ set) (suc m) (suc n) = ap (λ rest. held ∷ rest) (either_order answer set m n)

pub cleared : (capacity n : ℕ) → IsFalse (has (none_below capacity) n)
cleared zero n = refl
cleared (suc capacity) zero = refl
cleared (suc capacity) (suc n) = cleared capacity n

pub is_empty : (set : List Bool) → IsTrue (is_none set) ↔ ((n : ℕ) → IsFalse (has set n))
is_empty [] = (λ h n. refl, λ h. refl)
is_empty (true ∷ set) = (λ h. absurd cc, λ h. absurd (Prim.cc (h 0)))
is_empty (false ∷ set) = let step = is_empty set in (λ h. elim [ zero ↦ refl | suc n ↦ step.0 h n ], λ h. step.1 (λ n. h (suc n)))
