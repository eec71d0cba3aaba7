-- What a set holds, as items are put in one after another.
use Rattle.std.proofs.Common.{◌≡◌, ◌∙◌, ◌<◌, ◌≤◌, ◌+◌, ◌&&◌, ◌||◌, ℕ, List, [], ◌∷◌, Bool, true, false, not, cond, length, get_or, drop, drop_of_length-le, Ordering, is_eq, refl, sym, ap, ap₂}
use Rattle.js_tree.proofs.Rows.{front_of}
use Rattle.scope_match.specs.Items.{is_among, each_new}

turned : (a b c : Bool) → cond a true b || c ≡ b || (a || c)
turned true true c = refl
turned true false c = refl
turned false b c = refl

cond_or : (a b : Bool) → cond a true b ≡ a || b
cond_or true b = refl
cond_or false b = refl

or_false : (b : Bool) → b ≡ b || false
or_false true = refl
or_false false = refl

module _ {K : Type 0} (cmp : K → K → Ordering) where
  pub among_more : (items : List K) (i : ℕ) (x q : K) (had has whole : Bool) → i < length items → x ≡ get_or items i x
      → has ≡ cond (is_eq (cmp x q)) true had → had || is_among cmp q (drop i items) ≡ whole → has || is_among cmp q (drop (i + 1) items) ≡ whole
  among_more items i x q had has whole within at is so_far =
      ap (λ b. b || is_among cmp q (drop (i + 1) items)) is ∙ turned (is_eq (cmp x q)) had (is_among cmp q (drop (i + 1) items))
      ∙ ap (λ xs. had || is_among cmp q xs) (sym (front_of items i x within at)) ∙ so_far

  pub among_all : (items : List K) (i : ℕ) (q : K) (has whole : Bool) → length items ≤ i → has || is_among cmp q (drop i items) ≡ whole → has ≡ whole
  among_all items i q has whole past so_far = or_false has ∙ ap (λ xs. has || is_among cmp q xs) (sym (drop_of_length-le items past)) ∙ so_far

  pub new_same : (f g : K → Bool) → ((q : K) → f q ≡ g q) → (xs : List K) → each_new cmp f xs ≡ each_new cmp g xs
  new_same f g same [] = refl
  new_same f g same (x ∷ xs) =
      ap₂ (λ a b. not a && b) (same x) (new_same (λ q. is_eq (cmp x q) || f q) (λ q. is_eq (cmp x q) || g q) (λ q. ap (λ b. is_eq (cmp x q) || b) (same q)) xs)

  pub new_more : (items : List K) (i : ℕ) (x : K) (had has : K → Bool) (whole : Bool) → i < length items → x ≡ get_or items i x → had x ≡ false
      → ((q : K) → has q ≡ cond (is_eq (cmp x q)) true (had q)) → each_new cmp had (drop i items) ≡ whole → each_new cmp has (drop (i + 1) items) ≡ whole
  new_more items i x had has whole within at new is so_far =
      new_same has (λ q. is_eq (cmp x q) || had q) (λ q. is q ∙ cond_or (is_eq (cmp x q)) (had q)) (drop (i + 1) items)
      ∙ sym (ap (λ b. not b && each_new cmp (λ q. is_eq (cmp x q) || had q) (drop (i + 1) items)) new)
      ∙ ap (each_new cmp had) (sym (front_of items i x within at))
      ∙ so_far

  pub new_fails : (items : List K) (i : ℕ) (x : K) (had : K → Bool) (whole : Bool) → i < length items → x ≡ get_or items i x → had x ≡ true
      → each_new cmp had (drop i items) ≡ whole → false ≡ whole
  new_fails items i x had whole within at met so_far =
      sym (ap (λ b. not b && each_new cmp (λ q. is_eq (cmp x q) || had q) (drop (i + 1) items)) met)
      ∙ ap (each_new cmp had) (sym (front_of items i x within at))
      ∙ so_far

  pub new_all : (items : List K) (i : ℕ) (had : K → Bool) (whole : Bool) → length items ≤ i → each_new cmp had (drop i items) ≡ whole → true ≡ whole
  new_all items i had whole past so_far = ap (each_new cmp had) (sym (drop_of_length-le items past)) ∙ so_far
