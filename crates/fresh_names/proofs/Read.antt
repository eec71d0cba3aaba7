-- Where names are cut when they are read.
use Rattle.std.proofs.Common.{◌≡◌, ◌^◌, ◌==◌, ◌||◌, nat_lt, if◌then◌else◌, Some, None, inl, inr, ℕ, zero, suc, ◌+◌, ◌-◌, ◌<◌, ◌≤◌, Bool, true, false, ◌&&◌, List, [], ◌∷◌, length, get_or, drop, refl, subst, arith}
use Rattle.std.specs.Char.{is_ascii_digit}
use Rattle.std.specs.Str.{IsUtf8, IsCharBoundary, all_ascii_digits}
use Rattle.std.proofs.lemmas.Str.{IsCharBoundary-start, IsCharBoundary-after_ascii}
use Rattle.std.proofs.lemmas.List.Sums.{prefix_len_passes, prefix_len-le-length}
use Rattle.std.specs.Str.Parse.{digits_value}
use Rattle.std.proofs.lemmas.Bool.{eqb-true, cases_lt, lt-ltb}
use Rattle.std.proofs.lemmas.Bool.Decides.{nat_tests}
use Rattle.fresh_names.specs.Uid.{underscores, is_underscore, postfix_in}

pub cut_behind_underscores : (name : List ℕ) (n : ℕ) → IsUtf8 name → n ≡ underscores name → IsCharBoundary name n
cut_behind_underscores name zero text is = IsCharBoundary-start name text
cut_behind_underscores name (suc n) text is =
    let within : n < length name = omega (arith, prefix_len-le-length is_underscore name, is) in
    let here : get_or name n 0 ≡ 95 = eqb-true _ _ (prefix_len_passes is_underscore name n 0 (omega (arith, is))) in
    let there : n + 1 ≡ suc n = omega arith in
    subst (IsCharBoundary name) there (IsCharBoundary-after_ascii name n text within (omega (arith, here)))

digit_is_ascii : (c : ℕ) → is_ascii_digit c ≡ true → c < 128
digit_is_ascii c e = grind (arith, nat_tests)

pub cut_before_digits : (name : List ℕ) (n : ℕ) → n ≤ length name → ((k : ℕ) → n ≤ k → k < length name → is_ascii_digit (get_or name k 0) ≡ true) → IsCharBoundary name n
cut_before_digits name n within digits = (within, λ inside high. absurd (omega (arith, high, digit_is_ascii (get_or name n 0) (digits n (omega arith) inside))))

both : (a b : Bool) → a ≡ true → b ≡ true → a && b ≡ true
both true b e f = f
both false b e f = e

pub only_digits : (name : List ℕ) (n : ℕ) → ((k : ℕ) → n ≤ k → k < length name → is_ascii_digit (get_or name k 0) ≡ true) → all_ascii_digits (drop n name) ≡ true
only_digits [] zero digits = refl
only_digits [] (suc n) digits = refl
only_digits (c ∷ cs) zero digits =
    both (is_ascii_digit c) (all_ascii_digits cs) (digits 0 (omega arith) (omega arith))
    (only_digits cs zero (λ k low high. digits (suc k) (omega arith) (omega (arith, high))))
only_digits (c ∷ cs) (suc n) digits = only_digits cs n (λ k low high. digits (suc k) (omega (arith, low)) (omega (arith, high)))

-- ---- numbers behind names

none_past : (a b c d : Bool) (n : ℕ) → c ≡ true → None ≡ (if a || b || c || d then None else Some n)
none_past true b c d n h = refl
none_past false true c d n h = refl
none_past false false true d n h = refl
none_past false false false d n h = absurd cc

pub too_great : (digits : List ℕ) → (length digits == 0) ≡ false → ¬ ((0 < length digits) × (digits_value 10 digits < 2 ^ 32)) → None ≡ postfix_in digits
too_great [] some none = absurd cc
too_great (d ∷ ds) some none =
    none_past (d == 48) (nat_lt 10 (length (d ∷ ds))) (nat_lt (2 ^ 32 - 1) (digits_value 10 (d ∷ ds))) (digits_value 10 (d ∷ ds) == 1) (digits_value 10 (d ∷ ds))
    (elim (cases_lt (digits_value 10 (d ∷ ds)) (2 ^ 32)) [ inl small ↦ absurd (none (omega arith, small)) | inr great ↦ lt-ltb (2 ^ 32 - 1) (digits_value 10 (d ∷ ds)) (omega (arith, great)) ])
