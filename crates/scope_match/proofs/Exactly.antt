-- What a test finds of keys holds of the items that they tell.
use Rattle.std.proofs.Common.{◌≡◌, ◌∙◌, ◌↔◌, ◌||◌, ◌&&◌, List, [], ◌∷◌, map, Bool, true, false, not, true≢false, Ordering, is_eq, inl, inr, refl, sym, ap, subst}
use Rattle.std.proofs.lemmas.Bool.{or_cases}
use Rattle.std.specs.Cmp.{both_ways}
use Rattle.scope_laws.specs.Exact.{Among, NoneTwice}
use Rattle.scope_match.specs.Items.{SameItems, is_among, each_new, SameBy}
use Rattle.js_syntax.proofs.Truth.{first_of_either, second_of_either, neither as neither_of}

neither : (a b : Bool) → a || b ≡ false → (a ≡ false) × (b ≡ false)
neither true b e = absurd (true≢false e)
neither false b e = (refl, e)

first_new : (a b : Bool) → not a && b ≡ true → (a ≡ false) × (b ≡ true)
first_new true b e = absurd (true≢false (sym e))
first_new false b e = (refl, e)

both_new : (a b : Bool) → a ≡ false → b ≡ true → not a && b ≡ true
both_new true b e f = absurd (true≢false e)
both_new false b e f = f

not_true : (a : Bool) → (a ≡ true → ⊥) → a ≡ false
not_true true h = absurd (h refl)
not_true false h = refl

module _ {K X : Type 0} (cmp : K → K → Ordering) (told : K → X) (key : X → K) (told_key : (x : X) → told (key x) ≡ x) (exact : (a b : K) → (is_eq (cmp a b) ≡ true) ↔ (told a ≡ told b)) where
  among_told : (q : K) (xs : List K) → is_among cmp q xs ≡ true → Among (told q) (map told xs)
  among_told q [] h = absurd (true≢false (sym h))
  among_told q (x ∷ xs) h = elim (or_cases (is_eq (cmp x q)) (is_among cmp q xs) h) [
    | inl e ↦ inl ((exact x q).0 e)
    | inr k ↦ inr (among_told q xs k)
  ]

  told_among : (q : K) (xs : List K) → Among (told q) (map told xs) → is_among cmp q xs ≡ true
  told_among q [] h = absurd h
  told_among q (x ∷ xs) (inl e) = first_of_either (is_eq (cmp x q)) (is_among cmp q xs) ((exact x q).1 e)
  told_among q (x ∷ xs) (inr h) = second_of_either (is_eq (cmp x q)) (is_among cmp q xs) (told_among q xs h)

  abbrev Respects : (K → Bool) → Type 0
  Respects has = (a b : K) → told a ≡ told b → has a ≡ has b

  tests_alike : (x a b : K) → told a ≡ told b → is_eq (cmp x a) ≡ is_eq (cmp x b)
  tests_alike x a b e =
      both_ways (is_eq (cmp x a)) (is_eq (cmp x b)) (λ h. (exact x b).1 ((exact x a).0 h ∙ e)) (λ h. (exact x a).1 ((exact x b).0 h ∙ sym e))

  one_more : (x : K) (has : K → Bool) → Respects has → Respects (λ q. is_eq (cmp x q) || has q)
  one_more x has r a b e = ap (λ t. t || has a) (tests_alike x a b e) ∙ ap (λ t. is_eq (cmp x b) || t) (r a b e)

  abbrev AreNew : (K → Bool) → List K → Type 0
  AreNew has xs = ((q : K) → Among (told q) (map told xs) → has q ≡ false) × NoneTwice (map told xs)

  new_told : (has : K → Bool) → Respects has → (xs : List K) → each_new cmp has xs ≡ true → AreNew has xs
  new_told has r [] h = (λ q k. absurd k, tt)
  new_told has r (x ∷ xs) h =
      let both = first_new (has x) (each_new cmp (λ q. is_eq (cmp x q) || has q) xs) h in
      let rest = new_told (λ q. is_eq (cmp x q) || has q) (one_more x has r) xs both.1 in (
        λ q k. not_met q k both.0 rest.0,
        (λ k. true≢false (sym ((exact x x).1 refl) ∙ (neither (is_eq (cmp x x)) (has x) (rest.0 x k)).0), rest.1),
      )
    where
      not_met : (q : K) → Among (told q) (told x ∷ map told xs) → has x ≡ false → ((p : K) → Among (told p) (map told xs) → is_eq (cmp x p) || has p ≡ false) → has q ≡ false
      not_met q (inl e) first rest = r q x (sym e) ∙ first
      not_met q (inr k) first rest = (neither (is_eq (cmp x q)) (has q) (rest q k)).1

  told_new : (has : K → Bool) → (xs : List K) → AreNew has xs → each_new cmp has xs ≡ true
  told_new has [] h = refl
  told_new has (x ∷ xs) h =
      both_new (has x) (each_new cmp (λ q. is_eq (cmp x q) || has q) xs) (h.0 x (inl refl))
      (told_new (λ q. is_eq (cmp x q) || has q) xs (
        λ q k. neither_of (is_eq (cmp x q)) (has q) (not_true (is_eq (cmp x q)) (λ e. h.1.0 (subst (λ y. Among y (map told xs)) (sym ((exact x q).0 e)) k))) (h.0 q (inr k)),
        h.1.1,
      ))

  pub distinct_told : (xs : List K) → (each_new cmp (λ q. false) xs ≡ true) ↔ NoneTwice (map told xs)
  distinct_told xs = (λ h. (new_told (λ q. false) (λ a b e. refl) xs h).1, λ h. told_new (λ q. false) xs (λ q k. refl, h))

  pub same_told : (xs ys : List K) → SameBy cmp xs ys ↔ SameItems (map told xs) (map told ys)
  same_told xs ys = (
    λ h. (
      (distinct_told xs).0 h.0,
      λ x. (
        λ k. subst (λ y. Among y (map told ys)) (told_key x) (among_told (key x) ys (sym (h.1 (key x)) ∙ told_among (key x) xs (subst (λ y. Among y (map told xs)) (sym (told_key x)) k))),
        λ k. subst (λ y. Among y (map told xs)) (told_key x) (among_told (key x) xs (h.1 (key x) ∙ told_among (key x) ys (subst (λ y. Among y (map told ys)) (sym (told_key x)) k))),
      ),
    ),
    λ h. (
      (distinct_told xs).1 h.0,
      λ q. both_ways (is_among cmp q xs) (is_among cmp q ys) (λ e. told_among q ys ((h.1 (told q)).0 (among_told q xs e))) (λ e. told_among q xs ((h.1 (told q)).1 (among_told q ys e))),
    ),
  )
