-- Which numbers have a value, and which texts are numbers as they are written.
use Rattle.std.specs.Prelude.{ℕ, ℤ, pos, neg_ℤ, ◌+◌, ◌*◌, ◌-◌, unsigned_abs, nat_le, nat_lt, nat_eq, List, [], ◌∷◌, Bool, ◌&&◌, Option, Some, None, codes, if◌then◌else◌}
use Rattle.std.specs.Str.{bytes_eq}
use Rattle.js_effects.specs.Values.{largest}

-- within 2^53 - 1
abbrev pub is_in_range : ℤ → Bool
is_in_range z = nat_le (unsigned_abs z) largest

abbrev pub is_digit : ℕ → Bool
is_digit c = nat_le 48 c && nat_le c 57

-- the number that digits give behind those that gave one so far
abbrev pub digits_from : ℕ → List ℕ → Option ℕ
digits_from n [] = Some n
digits_from n (c ∷ cs) = if is_digit c then digits_from (n * 10 + (c - 48)) cs else None

abbrev pub limit : ℕ
limit = 2147483648

abbrev pub within : Option ℕ → Option ℕ
within (Some n) = if nat_le n limit then Some n else None
within None = None

-- digits without a leading 0, up to 2^31
abbrev pub digits : List ℕ → Option ℕ
digits [] = None
digits (c ∷ cs) = if nat_eq c 48 then None else within (digits_from 0 (c ∷ cs))

abbrev pub positive : Option ℕ → Option ℤ
positive (Some n) = if nat_lt n limit then Some (pos n) else None
positive None = None

abbrev pub negative : Option ℕ → Option ℤ
negative (Some n) = if nat_le n limit then Some (neg_ℤ (pos n)) else None
negative None = None

abbrev pub signed_digits : List ℕ → Option ℤ
signed_digits [] = None
signed_digits (c ∷ cs) = if nat_eq c 45 then negative (digits cs) else positive (digits (c ∷ cs))

-- "0", or an optional minus and digits without a leading 0, within 32 bits: the texts that ToString (ECMA-262 6.1.6.1.20)
-- gives of such numbers
abbrev pub equivalent_number : List ℕ → Option ℤ
equivalent_number s = if bytes_eq s (codes "0") then Some (pos 0) else signed_digits s
