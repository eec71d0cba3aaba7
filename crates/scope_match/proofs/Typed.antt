-- Lists of numbers, of texts, and of texts with numbers, beside lists of the same items.
use Rattle.std.proofs.Common.{◌≡◌, ◌∙◌, ◌↔◌, ◌&&◌, ℕ, List, [], ◌∷◌, map, Bool, true, false, true≢false, Bor, is_eq, nat_cmp, bytes_eq, IsTrue, refl, sym, ap, ap₂, subst, subst₂, eqb-true, eq-eqb}
use Rattle.std.specs.Bool.{nat_eq}
use Rattle.std.specs.Cmp.{unsigned_tied, both_tied}
use Rattle.std.specs.Cmp.Lexicographic.{slice_cmp}
use Rattle.std.specs.Ordering.{ordering_then}
use Rattle.std.specs.declared.cmp.Ordering.{Ordering}
use Rattle.std.proofs.lemmas.Map.Text.{is_eq-slice_cmp}
use Rattle.std.proofs.lemmas.Slice.Eq.{bytes_eq-Decides}
use Rattle.scope_rules.specs.Table.{Named}
use Rattle.scope_laws.specs.Exact.{NoneTwice}
use Rattle.scope_match.specs.Items.{SameItems, each_new, SameBy}
use Rattle.scope_match.specs.Matches.{Use}
use Rattle.scope_match.specs.Keys.{named_key, use_key}
use Rattle.scope_match.proofs.Exactly.{distinct_told, same_told}
use Rattle.js_syntax.proofs.Truth.{first_of_both, second_of_both, both}

-- ---- numbers

map_same : (xs : List ℕ) → map (λ x. x) xs ≡ xs
map_same [] = refl
map_same (x ∷ xs) = ap (λ ys. x ∷ ys) (map_same xs)

number_exact : (a b : ℕ) → (is_eq (nat_cmp a b) ≡ true) ↔ (a ≡ b)
number_exact a b = (λ h. eqb-true a b (sym (unsigned_tied a b) ∙ h), λ e. unsigned_tied a b ∙ eq-eqb a b e)

pub distinct_numbers : (xs : List ℕ) → (each_new nat_cmp (λ q. false) xs ≡ true) ↔ NoneTwice xs
distinct_numbers xs =
    let h = distinct_told nat_cmp (λ x. x) (λ x. x) (λ x. refl) number_exact xs in
    (λ e. subst NoneTwice (map_same xs) (h.0 e), λ k. h.1 (subst NoneTwice (sym (map_same xs)) k))

pub same_numbers : (xs ys : List ℕ) → SameBy nat_cmp xs ys ↔ SameItems xs ys
same_numbers xs ys =
    let h = same_told nat_cmp (λ x. x) (λ x. x) (λ x. refl) number_exact xs ys in
    (λ e. subst₂ SameItems (map_same xs) (map_same ys) (h.0 e), λ k. h.1 (subst₂ SameItems (sym (map_same xs)) (sym (map_same ys)) k))

pub same_numbers_of : (b : Bool) (xs ys us vs : List ℕ) → xs ≡ us → ys ≡ vs → (IsTrue b ↔ SameBy nat_cmp xs ys) → IsTrue b ↔ SameItems us vs
same_numbers_of b xs ys us vs e f h = (
  λ t. subst₂ SameItems e f ((same_numbers xs ys).0 (h.0 t)),
  λ k. h.1 ((same_numbers xs ys).1 (subst₂ SameItems (sym e) (sym f) k)),
)

-- ---- texts

abbrev pub text_cmp : Bor (List ℕ) → Bor (List ℕ) → Ordering
text_cmp a b = slice_cmp nat_cmp a.now b.now

abbrev text : List ℕ → Bor (List ℕ)
text x = record { ref_ptr = (0, 0); now = x }

bytes_exact : (a b : List ℕ) → (is_eq (slice_cmp nat_cmp a b) ≡ true) ↔ (a ≡ b)
bytes_exact a b = (λ h. (bytes_eq-Decides a b).0 (sym (is_eq-slice_cmp a b) ∙ h), λ e. is_eq-slice_cmp a b ∙ (bytes_eq-Decides a b).1 e)

pub same_texts : (xs ys : List (Bor (List ℕ))) → SameBy text_cmp xs ys ↔ SameItems (map (λ k. k.now) xs) (map (λ k. k.now) ys)
same_texts xs ys = same_told text_cmp (λ k. k.now) text (λ x. refl) (λ a b. bytes_exact a.now b.now) xs ys

pub same_texts_of : (b : Bool) (xs ys : List (Bor (List ℕ))) (us vs : List (List ℕ)) → map (λ k. k.now) xs ≡ us → map (λ k. k.now) ys ≡ vs → (IsTrue b ↔ SameBy text_cmp xs ys) → IsTrue b ↔ SameItems us vs
same_texts_of b xs ys us vs e f h = (
  λ t. subst₂ SameItems e f ((same_texts xs ys).0 (h.0 t)),
  λ k. h.1 ((same_texts xs ys).1 (subst₂ SameItems (sym e) (sym f) k)),
)

-- ---- texts with numbers

abbrev pub Key : Type 0
Key = ℕ × Bor (List ℕ)

abbrev pub key_cmp : Key → Key → Ordering
key_cmp a b = ordering_then (nat_cmp a.0 b.0) (slice_cmp nat_cmp a.1.now b.1.now)

tied : (a b : Key) → is_eq (key_cmp a b) ≡ nat_eq a.0 b.0 && bytes_eq a.1.now b.1.now
tied a b = sym (both_tied (nat_eq a.0 b.0) (bytes_eq a.1.now b.1.now) (nat_cmp a.0 b.0) (slice_cmp nat_cmp a.1.now b.1.now) (sym (unsigned_tied a.0 b.0)) (sym (is_eq-slice_cmp a.1.now b.1.now)))

key_first : (a b : Key) → is_eq (key_cmp a b) ≡ true → a.0 ≡ b.0
key_first a b h = eqb-true a.0 b.0 (first_of_both (nat_eq a.0 b.0) (bytes_eq a.1.now b.1.now) (sym (tied a b) ∙ h))

key_second : (a b : Key) → is_eq (key_cmp a b) ≡ true → a.1.now ≡ b.1.now
key_second a b h = (bytes_eq-Decides a.1.now b.1.now).0 (second_of_both (nat_eq a.0 b.0) (bytes_eq a.1.now b.1.now) (sym (tied a b) ∙ h))

key_both : (a b : Key) → a.0 ≡ b.0 → a.1.now ≡ b.1.now → is_eq (key_cmp a b) ≡ true
key_both a b e f = tied a b ∙ both (nat_eq a.0 b.0) (bytes_eq a.1.now b.1.now) (eq-eqb a.0 b.0 e) ((bytes_eq-Decides a.1.now b.1.now).1 f)

abbrev named : ℕ → List ℕ → Named
named n x = record { name = x; symbol = n }

abbrev used : ℕ → List ℕ → Use
used n x = record { name = x; reference = n }

pub same_named : (xs ys : List Key) → SameBy key_cmp xs ys ↔ SameItems (map named_key xs) (map named_key ys)
same_named xs ys =
    same_told key_cmp named_key (λ n. (n.symbol, text n.name)) (λ n. refl)
    (λ a b. (λ h. ap₂ named (key_first a b h) (key_second a b h), λ e. key_both a b (ap (λ (n : Named). n.symbol) e) (ap (λ (n : Named). n.name) e))) xs ys

pub same_used : (xs ys : List Key) → SameBy key_cmp xs ys ↔ SameItems (map use_key xs) (map use_key ys)
same_used xs ys =
    same_told key_cmp use_key (λ u. (u.reference, text u.name)) (λ u. refl)
    (λ a b. (λ h. ap₂ used (key_first a b h) (key_second a b h), λ e. key_both a b (ap (λ (u : Use). u.reference) e) (ap (λ (u : Use). u.name) e))) xs ys

pub same_named_of : (b : Bool) (xs ys : List Key) (us vs : List Named) → map named_key xs ≡ us → map named_key ys ≡ vs → (IsTrue b ↔ SameBy key_cmp xs ys) → IsTrue b ↔ SameItems us vs
same_named_of b xs ys us vs e f h = (
  λ t. subst₂ SameItems e f ((same_named xs ys).0 (h.0 t)),
  λ k. h.1 ((same_named xs ys).1 (subst₂ SameItems (sym e) (sym f) k)),
)

pub same_used_of : (b : Bool) (xs ys : List Key) (us vs : List Use) → map use_key xs ≡ us → map use_key ys ≡ vs → (IsTrue b ↔ SameBy key_cmp xs ys) → IsTrue b ↔ SameItems us vs
same_used_of b xs ys us vs e f h = (
  λ t. subst₂ SameItems e f ((same_used xs ys).0 (h.0 t)),
  λ k. h.1 ((same_used xs ys).1 (subst₂ SameItems (sym e) (sym f) k)),
)
