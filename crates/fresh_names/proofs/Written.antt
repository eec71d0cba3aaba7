-- A name is read as it was written.
use Rattle.std.proofs.Common.{◌≡◌, ◌∙◌, ℕ, zero, suc, ◌+◌, ◌-◌, ◌^◌, ◌<◌, ◌≤◌, ◌==◌, ◌||◌, nat_lt, Bool, true, false, cond, if◌then◌else◌, Option, Some, None, option_map, List, [], ◌∷◌, ◌++◌, length, replicate, get_or, take, drop, reverse, decimal, inl, inr, refl, ap, sym, arith}
use Rattle.std.specs.List.{prefix_len, suffix_len}
use Rattle.std.specs.Char.{is_ascii_digit}
use Rattle.std.specs.Str.Parse.{digits_value}
use Rattle.std.proofs.lemmas.Bool.{cases_eq, eq-eqb, ne_eqb, le-ltb, lt-ltb}
use Rattle.std.proofs.lemmas.Bool.Decides.{nat_tests}
use Rattle.std.proofs.lemmas.Fmt.{decimal_is_IsNumeral, length-decimal-le, first_decimal}
use Rattle.std.proofs.lemmas.Str.Parse.{digit_at}
use Rattle.std.proofs.lemmas.List.{get_or_append_left, get_or-append_right, get_or-reverse, get_or-take, length-reverse, length-take-le}
use Rattle.std.proofs.lemmas.List.Sums.{prefix_len_is, prefix_len_stops, suffix_len_is, suffix_len-le-length}
use Rattle.std.proofs.Math.Seq.{take-append_seam, drop-append_seam}
use Rattle.std.proofs.Common.{length-append}
use Rattle.fresh_names.specs.Uid.{Uid, is_underscore, underscores, without_underscores, digits_start, base_of, digits_of, postfix_in, digits_behind, uid_of, written}

-- no `_` before it and no digit behind it
pub record IsBase (base : List ℕ) : Type 0 where
  pub begins : underscores base ≡ 0
  pub ends : suffix_len is_ascii_digit base ≡ 0

-- ---- the base of a name is one

prefix_stays : (p : ℕ → Bool) (xs : List ℕ) → prefix_len p (drop (prefix_len p xs) xs) ≡ 0
prefix_stays p [] = refl
prefix_stays p (x ∷ xs) =
    elim (p x) as (λ c. p x ≡ c → prefix_len p (drop (cond c (1 + prefix_len p xs) 0) (x ∷ xs)) ≡ 0) [
      | true ↦ λ e. let next : 1 + prefix_len p xs ≡ suc (prefix_len p xs) = omega arith in ap (λ n. prefix_len p (drop n (x ∷ xs))) next ∙ prefix_stays p xs
      | false ↦ λ e. ap (λ c. cond c (1 + prefix_len p xs) 0) e
    ] refl

none_first : (p : ℕ → Bool) (x : ℕ) (xs : List ℕ) → prefix_len p (x ∷ xs) ≡ 0 → p x ≡ false
none_first p x xs none = elim (p x) as (λ c. cond c (1 + prefix_len p xs) 0 ≡ 0 → c ≡ false) [ true ↦ λ e. absurd (omega (arith, e)) | false ↦ λ e. refl ] none

prefix_of_part : (p : ℕ → Bool) (n : ℕ) (xs : List ℕ) → prefix_len p xs ≡ 0 → prefix_len p (take n xs) ≡ 0
prefix_of_part p zero xs none = refl
prefix_of_part p (suc n) [] none = refl
prefix_of_part p (suc n) (x ∷ xs) none = ap (λ c. cond c (1 + prefix_len p (take n xs)) 0) (none_first p x xs none)

suffix_stops : (xs : List ℕ) → suffix_len is_ascii_digit xs < length xs → is_ascii_digit (get_or xs (length xs - suffix_len is_ascii_digit xs - 1) 0) ≡ false
suffix_stops xs short =
    let same : length xs - 1 - suffix_len is_ascii_digit xs ≡ length xs - suffix_len is_ascii_digit xs - 1 = omega arith in
    ap is_ascii_digit (ap (λ k. get_or xs k 0) (sym same) ∙ sym (get_or-reverse xs (suffix_len is_ascii_digit xs) 0 short))
    ∙ prefix_len_stops is_ascii_digit (reverse xs) 0 (omega (arith, short, length-reverse xs))

suffix_of_part : (xs : List ℕ) → suffix_len is_ascii_digit (take (digits_start xs) xs) ≡ 0
suffix_of_part xs =
    let long : length (take (digits_start xs) xs) ≡ digits_start xs = length-take-le (digits_start xs) xs (omega (arith, suffix_len-le-length is_ascii_digit xs)) in
    let here : suffix_len is_ascii_digit (take (digits_start xs) xs) ≡ length (take (digits_start xs) xs) - digits_start xs =
    suffix_len_is is_ascii_digit (take (digits_start xs) xs) (digits_start xs) 0 (omega (arith, long)) (λ k low high. absurd (omega (arith, long, low, high)))
    (λ some. ap is_ascii_digit (get_or-take (digits_start xs) xs (digits_start xs - 1) 0 (omega (arith, some))) ∙ suffix_stops xs (omega (arith, some))) in
    omega (arith, here, long)

pub base_is : (name : List ℕ) → IsBase (base_of name)
base_is name = record {
  begins = prefix_of_part is_underscore (digits_start (without_underscores name)) (without_underscores name) (prefix_stays is_underscore name);
  ends = suffix_of_part (without_underscores name);
}

-- ---- the digits behind it

pub record AreDigits (n : ℕ) (digits : List ℕ) : Type 0 where
  pub only : (k : ℕ) → k < length digits → is_ascii_digit (get_or digits k 0) ≡ true
  pub told : postfix_in digits ≡ Some n

if_none : (a b c d : Bool) (n : ℕ) → a ≡ false → b ≡ false → c ≡ false → d ≡ false → (if a || b || c || d then None else Some n) ≡ Some n
if_none a b c d n e f g h = ap (λ x. if x || b || c || d then None else Some n) e ∙ ap (λ x. if x || c || d then None else Some n) f ∙ ap (λ x. if x || d then None else Some n) g ∙ ap (λ x. if x then None else Some n) h

told_by : (digits : List ℕ) (n : ℕ) → 0 < length digits → 48 < get_or digits 0 0 → length digits ≤ 10 → digits_value 10 digits ≡ n → 1 < n → n < 2 ^ 32 → postfix_in digits ≡ Some n
told_by [] n some first short value great small = absurd (omega (arith, some))
told_by (d ∷ ds) n some first short value great small =
    if_none (d == 48) (nat_lt 10 (length (d ∷ ds))) (nat_lt (2 ^ 32 - 1) (digits_value 10 (d ∷ ds))) (digits_value 10 (d ∷ ds) == 1) (digits_value 10 (d ∷ ds))
    (ne_eqb d 48 (λ e. omega (arith, e, first))) (le-ltb 10 (length (d ∷ ds)) short) (le-ltb (2 ^ 32 - 1) (digits_value 10 (d ∷ ds)) (omega (arith, value, small))) (ne_eqb (digits_value 10 (d ∷ ds)) 1 (λ e. omega (arith, e, value, great)))
    ∙ ap (λ v. Some v) value

digit_between : (c : ℕ) → 48 ≤ c → c ≤ 57 → is_ascii_digit c ≡ true
digit_between c low high = grind (arith, nat_tests)

decimal_digits : (n : ℕ) → 1 < n → n < 2 ^ 32 → AreDigits n (decimal n)
decimal_digits n great small =
    let numeral = decimal_is_IsNumeral n (omega (arith, small)) in
    record {
      only = λ k within. let between = digit_at (decimal n) k numeral.0.1 within in digit_between (get_or (decimal n) k 0) between.0 between.1;
      told = told_by (decimal n) n numeral.0.0 (first_decimal n (omega (arith, great)) (omega (arith, small))) (length-decimal-le 10 n (omega arith) (omega (arith, small)) (omega (arith, small))) numeral.1 great small;
    }

digits_are : (n : ℕ) → 0 < n → n < 2 ^ 32 → AreDigits n (digits_behind n)
digits_are n some small =
    elim (n == 1) as (λ c. (n == 1) ≡ c → AreDigits n (if c then [] else decimal n)) [
      | true ↦ λ e. record { only = λ k within. absurd (omega (arith, within)); told = ap (λ m. Some m) (sym (Rattle.std.proofs.lemmas.Bool.eqb-true n 1 e)) }
      | false ↦ λ e. let other = Rattle.std.proofs.lemmas.Bool.eqb-false n 1 e in let great : 1 < n = elim (cases_eq n 1) [ inl same ↦ absurd (other same) | inr apart ↦ omega (arith, some, apart) ] in decimal_digits n great small
    ] refl

-- ---- both together

digit_is_no_underscore : (c : ℕ) → is_ascii_digit c ≡ true → is_underscore c ≡ false
digit_is_no_underscore c e = grind (arith, nat_tests)

rest_begins : (base digits : List ℕ) → IsBase base → ((k : ℕ) → k < length digits → is_ascii_digit (get_or digits k 0) ≡ true) → underscores (base ++ digits) ≡ 0
rest_begins [] digits is only = prefix_len_is is_underscore digits 0 0 (omega arith) (λ k low. absurd (omega (arith, low))) (λ some. digit_is_no_underscore (get_or digits 0 0) (only 0 some))
rest_begins (c ∷ cs) digits is only = ap (λ b. cond b (1 + underscores (cs ++ digits)) 0) (none_first is_underscore c cs is.begins)

base_stops : (base : List ℕ) → IsBase base → 0 < length base → is_ascii_digit (get_or base (length base - 1) 0) ≡ false
base_stops base is some =
    let same : length base - suffix_len is_ascii_digit base - 1 ≡ length base - 1 = omega (arith, is.ends) in
    ap (λ k. is_ascii_digit (get_or base k 0)) (sym same) ∙ suffix_stops base (omega (arith, is.ends, some))

rest_ends : (base digits : List ℕ) → IsBase base → ((k : ℕ) → k < length digits → is_ascii_digit (get_or digits k 0) ≡ true) → digits_start (base ++ digits) ≡ length base
rest_ends base digits is only =
    let long = length-append base digits in
    let ends : suffix_len is_ascii_digit (base ++ digits) ≡ length (base ++ digits) - length base =
    suffix_len_is is_ascii_digit (base ++ digits) (length base) 0 (omega (arith, long))
    (λ k low high. ap is_ascii_digit (get_or-append_right base digits (length base) k 0 refl low) ∙ only (k - length base) (omega (arith, long, low, high)))
    (λ some. ap is_ascii_digit (get_or_append_left base digits 0 (length base - 1) (omega (arith, some))) ∙ base_stops base is some) in
    omega (arith, ends, long)

counted : (count : ℕ) (rest : List ℕ) → underscores rest ≡ 0 → underscores (replicate count 95 ++ rest) ≡ count
counted zero rest none = none
counted (suc count) rest none = omega (arith, counted count rest none)

behind : (count : ℕ) (rest : List ℕ) → drop count (replicate count 95 ++ rest) ≡ rest
behind zero rest = refl
behind (suc count) rest = behind count rest

abbrev pub read_with : (none : Bool) → (count : ℕ) → (base : List ℕ) → (number : Option ℕ) → Option Uid
read_with none count base number = if none then None else option_map (λ n. record { base = base; count = count; postfix = n }) number

abbrev pub read_by : (count : ℕ) → (base : List ℕ) → (number : Option ℕ) → Option Uid
read_by count base number = read_with (count == 0) count base number

pub read_back : (u : Uid) → IsBase u.base → 0 < u.count → 0 < u.postfix → u.postfix < 2 ^ 32 → uid_of (written u) ≡ Some u
read_back u is some low high =
    let behind_it = digits_are u.postfix low high in
    let rest = u.base ++ digits_behind u.postfix in
    let count : underscores (written u) ≡ u.count = counted u.count rest (rest_begins u.base (digits_behind u.postfix) is behind_it.only) in
    let after : without_underscores (written u) ≡ rest = ap (λ n. drop n (written u)) count ∙ behind u.count rest in
    let start : digits_start (without_underscores (written u)) ≡ length u.base = ap digits_start after ∙ rest_ends u.base (digits_behind u.postfix) is behind_it.only in
    let base : base_of (written u) ≡ u.base = (λ i. take (start i) (after i)) ∙ take-append_seam u.base (digits_behind u.postfix) in
    let digits : digits_of (written u) ≡ digits_behind u.postfix = (λ i. drop (start i) (after i)) ∙ drop-append_seam u.base (digits_behind u.postfix) in
    let number : postfix_in (digits_of (written u)) ≡ Some u.postfix = ap postfix_in digits ∙ behind_it.told in
    let whole : uid_of (written u) ≡ read_by u.count u.base (Some u.postfix) = λ i. read_by (count i) (base i) (number i) in
    whole ∙ ap (λ c. if c then None else Some u) (ne_eqb u.count 0 (λ e. omega (arith, e, some)))
