-- Names are told apart with their digests as without them.
use Rattle.std.proofs.Common.{◌≡◌, ◌∙◌, ◌&&◌, ℕ, List, Bool, true, false, refl, sym, ap}
use Rattle.std.specs.Bool.{nat_eq}
use Rattle.std.specs.Cmp.{unsigned_tied, both_tied}
use Rattle.std.specs.Cmp.Lexicographic.{slice_cmp}
use Rattle.std.specs.Ordering.{nat_cmp, ordering_then, is_eq}
use Rattle.std.specs.Str.{bytes_eq}
use Rattle.std.proofs.lemmas.Bool.Decides.{Decides-eqb}
use Rattle.std.proofs.lemmas.Map.Text.{is_eq-slice_cmp}
use Rattle.std.proofs.lemmas.Slice.Eq.{bytes_eq-Decides}
use Rattle.name_digest.specs.Digest.{digest_from}

absorbed : (x y : Bool) → (y ≡ true → x ≡ true) → x && y ≡ y
absorbed true y h = refl
absorbed false true h = h refl
absorbed false false h = refl

both_absorbed : (x y z : Bool) → (y ≡ true → z ≡ true → x ≡ true) → (x && y) && z ≡ y && z
both_absorbed true y z h = refl
both_absorbed false true true h = h refl refl
both_absorbed false true false h = refl
both_absorbed false false z h = refl

-- texts behind one number
pub texts_apart : (d s : ℕ) (q r : List ℕ) → d ≡ digest_from s q → is_eq (ordering_then (nat_cmp d (digest_from s r)) (slice_cmp nat_cmp q r)) ≡ bytes_eq q r
texts_apart d s q r is =
    let e = digest_from s r in
    sym (both_tied (nat_eq d e) (bytes_eq q r) (nat_cmp d e) (slice_cmp nat_cmp q r) (sym (unsigned_tied d e)) (sym (is_eq-slice_cmp q r)))
    ∙ ap (λ n. nat_eq n e && bytes_eq q r) is
    ∙ absorbed (nat_eq (digest_from s q) e) (bytes_eq q r) (λ same. (Decides-eqb (digest_from s q) e).1 (ap (digest_from s) ((bytes_eq-Decides q r).0 same)))

-- texts behind numbers that are compared, too
pub keys_apart : (d s t : ℕ) (q r : List ℕ) → d ≡ digest_from s q
    → is_eq (ordering_then (ordering_then (nat_cmp d (digest_from t r)) (nat_cmp s t)) (slice_cmp nat_cmp q r)) ≡ nat_eq s t && bytes_eq q r
keys_apart d s t q r is =
    let e = digest_from t r in
    sym (both_tied (nat_eq d e && nat_eq s t) (bytes_eq q r) (ordering_then (nat_cmp d e) (nat_cmp s t)) (slice_cmp nat_cmp q r)
    (both_tied (nat_eq d e) (nat_eq s t) (nat_cmp d e) (nat_cmp s t) (sym (unsigned_tied d e)) (sym (unsigned_tied s t))) (sym (is_eq-slice_cmp q r)))
    ∙ ap (λ n. (nat_eq n e && nat_eq s t) && bytes_eq q r) is
    ∙ both_absorbed (nat_eq (digest_from s q) e) (nat_eq s t) (bytes_eq q r)
    (λ starts texts.
    let same_start : s ≡ t = (Decides-eqb s t).0 starts in
    let same_text : q ≡ r = (bytes_eq-Decides q r).0 texts in
    (Decides-eqb (digest_from s q) e).1 (λ i. digest_from (same_start i) (same_text i)))
