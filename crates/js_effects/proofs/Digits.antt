-- Numbers that digits give.
use Rattle.std.proofs.Common.{◌≡◌, ◌<◌, ◌≤◌, ◌+◌, ◌*◌, ◌-◌, ◌∙◌, ℕ, List, [], ◌∷◌, Bool, true, false, Option, Some, None, length, get_or, drop, drop-cons, add-one, refl, ap, arith}
use Rattle.std.proofs.lemmas.List.{drop_all}
use Rattle.std.proofs.lemmas.Bool.{lt-leb}
use Rattle.std.specs.Prelude.{if◌then◌else◌}
use Rattle.js_effects.specs.Number.{is_digit, digits_from, within, limit}

past_by : (b : Bool) (x : Option ℕ) → within x ≡ None → within (if b then x else None) ≡ None
past_by true x h = h
past_by false x h = refl

-- past the limit no digit leads back
pub digits_past : (n : ℕ) (cs : List ℕ) → limit < n → within (digits_from n cs) ≡ None
digits_past n [] h = rw (lt-leb n limit h) refl
digits_past n (c ∷ cs) h = past_by (is_digit c) (digits_from (n * 10 + (c - 48)) cs) (digits_past (n * 10 + (c - 48)) cs (omega (arith, h)))

front : (xs : List ℕ) (i : ℕ) → i < length xs → drop i xs ≡ get_or xs i 0 ∷ drop (i + 1) xs
front xs i h = rw add-one (drop-cons xs i 0 h)

pub one_digit : (xs : List ℕ) (i n : ℕ) → i < length xs → is_digit (get_or xs i 0) ≡ true → digits_from n (drop i xs) ≡ digits_from (n * 10 + (get_or xs i 0 - 48)) (drop (i + 1) xs)
one_digit xs i n h is = ap (digits_from n) (front xs i h) ∙ rw is refl

pub no_digit : (xs : List ℕ) (i n : ℕ) → i < length xs → is_digit (get_or xs i 0) ≡ false → digits_from n (drop i xs) ≡ None
no_digit xs i n h is = ap (digits_from n) (front xs i h) ∙ rw is refl

pub no_more : (xs : List ℕ) (i n : ℕ) → length xs ≤ i → digits_from n (drop i xs) ≡ Some n
no_more xs i n h = ap (digits_from n) (drop_all i xs h)

pub past_at : (xs : List ℕ) (i n : ℕ) → i < length xs → is_digit (get_or xs i 0) ≡ true → limit < n * 10 + (get_or xs i 0 - 48) → within (digits_from n (drop i xs)) ≡ None
past_at xs i n h is past = ap within (one_digit xs i n h is) ∙ digits_past (n * 10 + (get_or xs i 0 - 48)) (drop (i + 1) xs) past
