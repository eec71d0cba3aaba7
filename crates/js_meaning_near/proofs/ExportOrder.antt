-- What a module exports is listed by names, so it is one list in whatever order its entries stand.
use Rattle.std.proofs.Common.{◌≡◌, ◌∙◌, ℕ, List, [], ◌∷◌, refl, sym, ap, ap₂, true≢false, arith}
use Rattle.std.specs.Prelude.{Bool, true, false, nat_eq, nat_lt, if◌then◌else◌}
use Rattle.std.specs.Str.{bytes_eq}
use Rattle.std.proofs.lemmas.Slice.Eq.{bytes_eq-Decides}
use Rattle.js_meaning.specs.Value.{Text}
use Rattle.js_meaning.specs.State.{Export, export}
use Rattle.js_meaning.specs.Module.{before, exported_name, insert}

-- ---- numbers

same_number : (i j : ℕ) → nat_eq i j ≡ true → i ≡ j
same_number i j e = Prim.grind arith

same_back : (i j : ℕ) → nat_eq i j ≡ true → nat_eq j i ≡ true
same_back i j e = Prim.grind arith

apart_back : (i j : ℕ) → nat_eq i j ≡ false → nat_eq j i ≡ false
apart_back i j e = Prim.grind arith

not_less : (i j : ℕ) → nat_lt i j ≡ true → nat_lt j i ≡ false
not_less i j e = Prim.grind arith

less_or : (i j : ℕ) → nat_eq i j ≡ false → nat_lt i j ≡ false → nat_lt j i ≡ true
less_or i j e f = Prim.grind arith

same_same : (i j k : ℕ) → nat_eq i j ≡ true → nat_eq j k ≡ true → nat_eq i k ≡ true
same_same i j k e f = Prim.grind arith

same_apart : (i j k : ℕ) → nat_eq i j ≡ true → nat_eq j k ≡ false → nat_eq i k ≡ false
same_apart i j k e f = Prim.grind arith

same_less : (i j k : ℕ) → nat_eq i j ≡ true → nat_lt j k ≡ true → nat_lt i k ≡ true
same_less i j k e f = Prim.grind arith

apart_same : (i j k : ℕ) → nat_eq i j ≡ false → nat_eq j k ≡ true → nat_eq i k ≡ false
apart_same i j k e f = Prim.grind arith

less_same : (i j k : ℕ) → nat_lt i j ≡ true → nat_eq j k ≡ true → nat_lt i k ≡ true
less_same i j k e f = Prim.grind arith

less_apart : (i j k : ℕ) → nat_lt i j ≡ true → nat_lt j k ≡ true → nat_eq i k ≡ false
less_apart i j k e f = Prim.grind arith

less_less : (i j k : ℕ) → nat_lt i j ≡ true → nat_lt j k ≡ true → nat_lt i k ≡ true
less_less i j k e f = Prim.grind arith

-- ---- the order of bytes is an order

chosen : {X : Type 0} (x y : X) (b : Bool) → b ≡ true → (if b then x else y) ≡ x
chosen x y true e = refl
chosen x y false e = absurd (true≢false (sym e))

not_chosen : {X : Type 0} (x y : X) (b : Bool) → b ≡ false → (if b then x else y) ≡ y
not_chosen x y true e = absurd (true≢false e)
not_chosen x y false e = refl

not_true : {b : Bool} → b ≡ false → b ≡ true → ⊥
not_true e f = true≢false (sym f ∙ e)

not_back : (xs ys : Text) → before xs ys ≡ true → before ys xs ≡ false
not_back [] [] e = refl
not_back [] (y ∷ ys) e = refl
not_back (x ∷ xs) [] e = absurd (not_true refl e)
not_back (x ∷ xs) (y ∷ ys) e = go (λ h. not_back xs ys h) (nat_eq x y) refl
  where
    go : (before xs ys ≡ true → before ys xs ≡ false) → (b : Bool) → nat_eq x y ≡ b → before (y ∷ ys) (x ∷ xs) ≡ false
    go more true f = chosen _ _ (nat_eq y x) (same_back x y f) ∙ more (sym (chosen _ _ (nat_eq x y) f) ∙ e)
    go more false f = not_chosen _ _ (nat_eq y x) (apart_back x y f) ∙ not_less x y (sym (not_chosen _ _ (nat_eq x y) f) ∙ e)

through : (xs ys zs : Text) → before xs ys ≡ true → before ys zs ≡ true → before xs zs ≡ true
through xs [] zs e f = absurd (not_true refl e)
through xs (y ∷ ys) [] e f = absurd (not_true refl f)
through [] (y ∷ ys) (z ∷ zs) e f = refl
through (x ∷ xs) (y ∷ ys) (z ∷ zs) e f = go (λ h i. through xs ys zs h i) (nat_eq x y) (nat_eq y z) refl refl
  where
    go : (before xs ys ≡ true → before ys zs ≡ true → before xs zs ≡ true) → (b c : Bool) → nat_eq x y ≡ b → nat_eq y z ≡ c → before (x ∷ xs) (z ∷ zs) ≡ true
    go more true true g h = chosen _ _ (nat_eq x z) (same_same x y z g h) ∙ more (sym (chosen _ _ (nat_eq x y) g) ∙ e) (sym (chosen _ _ (nat_eq y z) h) ∙ f)
    go more true false g h = not_chosen _ _ (nat_eq x z) (same_apart x y z g h) ∙ same_less x y z g (sym (not_chosen _ _ (nat_eq y z) h) ∙ f)
    go more false true g h = not_chosen _ _ (nat_eq x z) (apart_same x y z g h) ∙ less_same x y z (sym (not_chosen _ _ (nat_eq x y) g) ∙ e) h
    go more false false g h = let l = sym (not_chosen _ _ (nat_eq x y) g) ∙ e in let m = sym (not_chosen _ _ (nat_eq y z) h) ∙ f in not_chosen _ _ (nat_eq x z) (less_apart x y z l m) ∙ less_less x y z l m

otherwise_back : (xs ys : Text) → (xs ≡ ys → ⊥) → before xs ys ≡ false → before ys xs ≡ true
otherwise_back [] [] a e = absurd (a refl)
otherwise_back [] (y ∷ ys) a e = absurd (not_true e refl)
otherwise_back (x ∷ xs) [] a e = refl
otherwise_back (x ∷ xs) (y ∷ ys) a e = go (λ b h. otherwise_back xs ys b h) (nat_eq x y) refl
  where
    go : ((xs ≡ ys → ⊥) → before xs ys ≡ false → before ys xs ≡ true) → (b : Bool) → nat_eq x y ≡ b → before (y ∷ ys) (x ∷ xs) ≡ true
    go more true f = chosen _ _ (nat_eq y x) (same_back x y f) ∙ more (λ g. a (ap₂ (λ i is. i ∷ is) (same_number x y f) g)) (sym (chosen _ _ (nat_eq x y) f) ∙ e)
    go more false f = not_chosen _ _ (nat_eq y x) (apart_back x y f) ∙ less_or x y f (sym (not_chosen _ _ (nat_eq x y) f) ∙ e)

-- ---- two exports that are put in

in_order : (d e : Export) (fs : List Export) → before (exported_name d) (exported_name e) ≡ true → insert d (insert e fs) ≡ insert e (insert d fs)
in_order (export x s) (export y z) [] l = not_chosen _ _ (before y x) (not_back x y l) ∙ sym (chosen _ _ (before x y) l)
in_order (export x s) (export y z) (export u t ∷ fs) l = go (in_order (export x s) (export y z) fs l) (before u x) (before u y) refl refl
  where
    d : Export
    d = export x s

    e : Export
    e = export y z

    f : Export
    f = export u t

    go : insert d (insert e fs) ≡ insert e (insert d fs) → (b c : Bool) → before u x ≡ b → before u y ≡ c → insert d (insert e (f ∷ fs)) ≡ insert e (insert d (f ∷ fs))
    go more true true g h =
        ap (λ es. insert d es) (chosen (f ∷ insert e fs) _ (before u y) h) ∙ chosen _ _ (before u x) g ∙ ap (λ es. f ∷ es) more
        ∙ sym (ap (λ es. insert e es) (chosen (f ∷ insert d fs) _ (before u x) g) ∙ chosen _ _ (before u y) h)
    go more true false g h = absurd (not_true h (through u x y g l))
    go more false true g h =
        ap (λ es. insert d es) (chosen (f ∷ insert e fs) _ (before u y) h) ∙ not_chosen _ _ (before u x) g
        ∙ sym (ap (λ es. insert e es) (not_chosen _ (d ∷ f ∷ fs) (before u x) g) ∙ chosen _ _ (before x y) l ∙ ap (λ es. d ∷ es) (chosen _ _ (before u y) h))
    go more false false g h =
        ap (λ es. insert d es) (not_chosen _ (e ∷ f ∷ fs) (before u y) h) ∙ not_chosen _ _ (before y x) (not_back x y l)
        ∙ sym (ap (λ es. insert e es) (not_chosen _ (d ∷ f ∷ fs) (before u x) g) ∙ chosen _ _ (before x y) l ∙ ap (λ es. d ∷ es) (not_chosen _ _ (before u y) h))

-- Two exports under different names may be put in in either order.
pub either_order : (d e : Export) (fs : List Export) → bytes_eq (exported_name d) (exported_name e) ≡ false → insert d (insert e fs) ≡ insert e (insert d fs)
either_order d e fs apart = go (before (exported_name d) (exported_name e)) refl
  where
    unlike : exported_name d ≡ exported_name e → ⊥
    unlike same = not_true apart ((bytes_eq-Decides (exported_name d) (exported_name e)).1 same)

    go : (b : Bool) → before (exported_name d) (exported_name e) ≡ b → insert d (insert e fs) ≡ insert e (insert d fs)
    go true l = in_order d e fs l
    go false l = sym (in_order e d fs (otherwise_back (exported_name d) (exported_name e) unlike l))
