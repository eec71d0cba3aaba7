-- The items of a list and what those become that change, put together.
use Rattle.std.proofs.Common.{◌≡◌, ◌∙◌, ◌<◌, ◌≤◌, ◌+◌, ℕ, zero, suc, List, [], ◌∷◌, ◌++◌, Bool, true, false, Option, Some, None, if◌then◌else◌, length, take, get_or, set, append-nil, refl, sym, ap, ap₂, arith}
use Rattle.std.specs.List.{items_where_true}
use Rattle.std.proofs.lemmas.List.{take-append-le, take_all}
use Rattle.js_syntax.specs.Node.{Tree, joined, row}
use Rattle.js_tree.proofs.Rows.{row_push}
use Rattle.min_imports.specs.Merging.{or_changed, overlaid, planned}

-- ---- items, and what they become

pub over_long : (items changed : List (Option Tree)) → length changed ≤ length items → length (overlaid items changed) ≡ length changed
over_long [] [] h = refl
over_long [] (c ∷ changed) h = absurd (Prim.omega (arith, h))
over_long (x ∷ items) [] h = refl
over_long (x ∷ items) (c ∷ changed) h = ap suc (over_long items changed (Prim.omega (arith, h)))

pub over_at : (items changed : List (Option Tree)) (at : ℕ) (x c d : Option Tree) → at < length changed → length changed ≤ length items → x ≡ get_or items at x → c ≡ get_or changed at c → get_or (overlaid items changed) at d ≡ or_changed x c
over_at items [] at x c d l h is be = absurd (Prim.omega (arith, l))
over_at [] (e ∷ changed) at x c d l h is be = absurd (Prim.omega (arith, h))
over_at (y ∷ items) (e ∷ changed) zero x c d l h is be = ap₂ or_changed (sym is) (sym be)
over_at (y ∷ items) (e ∷ changed) (suc at) x c d l h is be = over_at items changed at x c d (Prim.omega (arith, l)) (Prim.omega (arith, h)) is be

pub over_set : (items changed : List (Option Tree)) (at : ℕ) (x w : Option Tree) → at < length changed → length changed ≤ length items → x ≡ get_or items at x → or_changed x w ≡ w → overlaid items (set changed at w) ≡ set (overlaid items changed) at w
over_set items [] at x w l h is same = absurd (Prim.omega (arith, l))
over_set [] (e ∷ changed) at x w l h is same = absurd (Prim.omega (arith, h))
over_set (y ∷ items) (e ∷ changed) zero x w l h is same = ap (λ z. z ∷ overlaid items changed) (ap (λ z. or_changed z w) (sym is) ∙ same)
over_set (y ∷ items) (e ∷ changed) (suc at) x w l h is same = ap (λ zs. or_changed y e ∷ zs) (over_set items changed at x w (Prim.omega (arith, l)) (Prim.omega (arith, h)) is same)

pub over_there : (items changed : List (Option Tree)) (n at : ℕ) (x c y : Option Tree) → at < n → length changed ≡ n → n ≤ length items → x ≡ get_or items at x → c ≡ get_or changed at c → y ≡ or_changed x c
    → (at < length (overlaid items changed)) × (get_or (overlaid items changed) at None ≡ y)
over_there items changed n at x c y h even within is be said = (
  Prim.omega (arith, h, even, over_long items changed (Prim.omega (arith, even, within))),
  over_at items changed at x c None (Prim.omega (arith, h, even)) (Prim.omega (arith, even, within)) is be ∙ sym said,
)

none_over : (ys : List (Option Tree)) → overlaid ys [] ≡ []
none_over [] = refl
none_over (z ∷ ys) = refl

pub over_push : (items changed : List (Option Tree)) (i : ℕ) (x : Option Tree) → length changed ≡ i → i < length items → x ≡ get_or items i x → overlaid items (changed ++ None ∷ []) ≡ overlaid items changed ++ x ∷ []
over_push [] changed i x n l is = absurd (Prim.omega (arith, l))
over_push (y ∷ items) [] zero x n l is = ap₂ (λ (z : Option Tree) zs. z ∷ zs) (sym is) (none_over items)
over_push (y ∷ items) [] (suc i) x n l is = absurd (Prim.omega (arith, n))
over_push (y ∷ items) (c ∷ changed) zero x n l is = absurd (Prim.omega (arith, n))
over_push (y ∷ items) (c ∷ changed) (suc i) x n l is = ap (λ zs. or_changed y c ∷ zs) (over_push items changed i x (Prim.omega (arith, n)) (Prim.omega (arith, l)) is)

kept_push : (bs : List Bool) (ys : List (Option Tree)) (b : Bool) (x : Option Tree) → length bs ≡ length ys → items_where_true (bs ++ b ∷ []) (ys ++ x ∷ []) ≡ items_where_true bs ys ++ (if b then x ∷ [] else [])
kept_push [] [] true x n = refl
kept_push [] [] false x n = refl
kept_push [] (y ∷ ys) b x n = absurd (Prim.omega (arith, n))
kept_push (a ∷ bs) [] b x n = absurd (Prim.omega (arith, n))
kept_push (true ∷ bs) (y ∷ ys) b x n = ap (λ zs. y ∷ zs) (kept_push bs ys b x (Prim.omega (arith, n)))
kept_push (false ∷ bs) (y ∷ ys) b x n = kept_push bs ys b x (Prim.omega (arith, n))

row_more : (ts : List (Option Tree)) (b : Bool) (x : Option Tree) → row (ts ++ (if b then x ∷ [] else [])) ≡ if b then joined (row ts) (row (x ∷ [])) else row ts
row_more ts true x = row_push ts x
row_more ts false x = ap row (append-nil ts)

-- one more item is planned
pub planned_push : (items : List (Option Tree)) (bs : List Bool) (changed : List (Option Tree)) (i : ℕ) (b : Bool) (x : Option Tree) → length bs ≡ i → length changed ≡ i → i < length items → x ≡ get_or items i x
    → planned items (bs ++ b ∷ []) (changed ++ None ∷ []) ≡ if b then joined (planned items bs changed) (row (x ∷ [])) else planned items bs changed
planned_push items bs changed i b x n m l is =
    ap (λ ys. row (items_where_true (bs ++ b ∷ []) ys)) (over_push items changed i x m l is)
    ∙ ap row (kept_push bs (overlaid items changed) b x (Prim.omega (arith, n, m, l, over_long items changed (Prim.omega (arith, m, l)))))
    ∙ row_more (items_where_true bs (overlaid items changed)) b x

-- ---- the items of a row

pub row_same : (ts us : List (Option Tree)) → row ts ≡ row us → ts ≡ us
row_same [] [] e = refl
row_same [] (None ∷ us) e = absurd cc
row_same [] (Some u ∷ us) e = absurd cc
row_same (None ∷ ts) [] e = absurd cc
row_same (None ∷ ts) (None ∷ us) e = ap (λ l. None ∷ l) (row_same ts us (cc e))
row_same (None ∷ ts) (Some u ∷ us) e = absurd cc
row_same (Some t ∷ ts) [] e = absurd cc
row_same (Some t ∷ ts) (None ∷ us) e = absurd cc
row_same (Some t ∷ ts) (Some u ∷ us) e =
    let kinds : t.kind ≡ u.kind = cc e in
    let notes : t.note ≡ u.note = cc e in
    let belows : t.below ≡ u.below = cc e in
    let rests : row ts ≡ row us = cc e in
    ap₂ (λ (x : Option Tree) l. x ∷ l)
    (ap (λ z. Some (record { kind = z; note = t.note; below = t.below })) kinds ∙ ap (λ z. Some (record { kind = u.kind; note = z; below = t.below })) notes ∙ ap (λ z. Some (record { kind = u.kind; note = u.note; below = z })) belows)
    (row_same ts us rests)

pub written : (n : ℕ) (ys zs : List (Option Tree)) → n ≡ length ys → take n (ys ++ zs) ≡ ys
written n ys zs e = take-append-le n ys zs (Prim.omega (arith, e)) ∙ take_all n ys (Prim.omega (arith, e))
