-- A list that closes up over the items that leave it.
use Rattle.std.proofs.Common.{◌≡◌, ◌<◌, ◌≤◌, ◌+◌, ◌∙◌, ℕ, zero, suc, List, [], ◌∷◌, ◌++◌, Bool, true, false, length, take, drop, get_or, append-nil, append_assoc, refl, sym, ap, ap₂, arith}
use Rattle.std.specs.List.{items_where_true, SwappedAt}
use Rattle.std.proofs.lemmas.List.{take_more, drop_more, drop_all, length-set, take-set-le, drop-set-lt}

-- ys began as xs: its first k items stay, and from i on it is as it was
pub record Closes {X : Type 0} (stay : List Bool) (xs ys : List X) (k i : ℕ) : Type 0 where
  pub whole : take k ys ++ items_where_true (drop i stay) (drop i ys) ≡ items_where_true stay xs
  pub behind : k ≤ i
  pub long : length stay ≡ length ys

item_at : {X : Type 0} (xs : List X) (i : ℕ) → i < length xs → (x : X) × (x ≡ get_or xs i x)
item_at [] i lt = absurd (Prim.omega (arith, lt))
item_at (x ∷ xs) zero lt = (x, refl)
item_at (x ∷ xs) (suc i) lt = item_at xs i (Prim.omega (arith, lt))

module _ {X : Type 0} {stay : List Bool} {xs ys : List X} {k i : ℕ} where
  ahead : (x : X) (answer : Bool) → Closes stay xs ys k i → i < length stay → get_or stay i false ≡ answer → x ≡ get_or ys i x
      → items_where_true (drop i stay) (drop i ys) ≡ items_where_true (answer ∷ drop (i + 1) stay) (x ∷ drop (i + 1) ys)
  ahead x answer h lt told is =
      ap₂ (λ bs zs. items_where_true bs zs) (drop_more stay i false lt ∙ ap (λ b. b ∷ drop (i + 1) stay) told) (drop_more ys i x (Prim.omega (arith, lt, h.long)) ∙ ap (λ z. z ∷ drop (i + 1) ys) (sym is))

  pub closes_over : Closes stay xs ys k i → i < length stay → get_or stay i false ≡ false → Closes stay xs ys k (i + 1)
  closes_over h lt told =
      let item = item_at ys i (Prim.omega (arith, lt, h.long)) in
      record { whole = ap (λ l. take k ys ++ l) (sym (ahead item.0 false h lt told item.1)) ∙ h.whole; behind = Prim.omega (arith, h.behind); long = h.long }

  pub closes_behind : (zs : List X) → Closes stay xs ys k i → i < length stay → get_or stay i false ≡ true → SwappedAt ys zs k i → Closes stay xs zs (k + 1) (i + 1)
  closes_behind zs h lt told swapped =
      let inside : i < length ys = Prim.omega (arith, lt, h.long) in
      let item = item_at ys i inside in
      let x = item.0 in
      let is = item.1 in
      let sets = swapped.3 x in
      let long : length zs ≡ length ys = ap length sets ∙ length-set _ i _ ∙ length-set ys k _ in
      let front : take k zs ≡ take k ys = ap (take k) sets ∙ take-set-le k _ i _ h.behind ∙ take-set-le k ys k _ (Prim.omega arith) in
      let back : drop (i + 1) zs ≡ drop (i + 1) ys = ap (drop (i + 1)) sets ∙ drop-set-lt (i + 1) _ i _ (Prim.omega arith) ∙ drop-set-lt (i + 1) ys k _ (Prim.omega (arith, h.behind)) in
      let here : get_or zs k x ≡ x = swapped.0 x ∙ sym is in
      let rest = items_where_true (drop (i + 1) stay) (drop (i + 1) ys) in
      record {
        whole =
            ap₂ (λ l m. l ++ items_where_true (drop (i + 1) stay) m) (take_more zs k x (Prim.omega (arith, h.behind, inside, long)) ∙ ap₂ (λ l z. l ++ z ∷ []) front here) back
            ∙ append_assoc (take k ys) (x ∷ []) rest
            ∙ ap (λ l. take k ys ++ l) (sym (ahead x true h lt told is))
            ∙ h.whole;
        behind = Prim.omega (arith, h.behind);
        long = h.long ∙ sym long;
      }

  pub closed : Closes stay xs ys k i → length stay ≤ i → take k ys ≡ items_where_true stay xs
  closed h le = sym (append-nil (take k ys)) ∙ ap (λ l. take k ys ++ items_where_true l (drop i ys)) (sym (drop_all i stay le)) ∙ h.whole
