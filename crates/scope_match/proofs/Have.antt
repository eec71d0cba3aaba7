-- Lists whose items are told alike in two ways, item after item.
use Rattle.std.proofs.Common.{◌≡◌, ◌∙◌, ◌↔◌, ◌<◌, ◌≤◌, ◌+◌, ℕ, List, [], ◌∷◌, map, true, false, true≢false, IsTrue, length, get_or, drop, drop_of_length-le, refl, sym, ap, ap₂}
use Rattle.js_tree.proofs.Rows.{front_of}

abbrev head_or : {A : Type 0} → A → List A → A
head_or d [] = d
head_or d (x ∷ xs) = x

abbrev tail_of : {A : Type 0} → List A → List A
tail_of [] = []
tail_of (x ∷ xs) = xs

pub same_head : {A : Type 0} (x y : A) (xs ys : List A) → x ∷ xs ≡ y ∷ ys → x ≡ y
same_head x y xs ys e = ap (head_or x) e

pub same_tail : {A : Type 0} (x y : A) (xs ys : List A) → x ∷ xs ≡ y ∷ ys → xs ≡ ys
same_tail x y xs ys e = ap tail_of e

abbrev pub Have : {A B : Type 0} → (A → B) → (A → B) → List A → Type 0
Have g h xs = map g xs ≡ map h xs

module _ {A B : Type 0} (g h : A → B) (xs : List A) (i : ℕ) (x : A) (whole : Type 0) (within : i < length xs) (at : x ≡ get_or xs i x) (so_far : Have g h (drop i xs) ↔ whole) where
  front : drop i xs ≡ x ∷ drop (i + 1) xs
  front = front_of xs i x within at

  whole_front : whole → g x ∷ map g (drop (i + 1) xs) ≡ h x ∷ map h (drop (i + 1) xs)
  whole_front w = ap (map g) (sym front) ∙ so_far.1 w ∙ ap (map h) front

  pub have_more : g x ≡ h x → Have g h (drop (i + 1) xs) ↔ whole
  have_more e = (
    λ k. so_far.0 (ap (map g) front ∙ ap₂ (λ y ys. y ∷ ys) e k ∙ ap (map h) (sym front)),
    λ w. same_tail (g x) (h x) (map g (drop (i + 1) xs)) (map h (drop (i + 1) xs)) (whole_front w),
  )

  pub have_not : (g x ≡ h x → ⊥) → IsTrue false ↔ whole
  have_not other = (
    λ e. absurd (true≢false (sym e)),
    λ w. absurd (other (same_head (g x) (h x) (map g (drop (i + 1) xs)) (map h (drop (i + 1) xs)) (whole_front w))),
  )

pub have_all : {A B : Type 0} (g h : A → B) (xs : List A) (i : ℕ) (whole : Type 0) → length xs ≤ i → Have g h (drop i xs) ↔ whole → IsTrue true ↔ whole
have_all g h xs i whole past so_far = (
  λ e. so_far.0 (ap (map g) (drop_of_length-le xs past) ∙ ap (map h) (sym (drop_of_length-le xs past))),
  λ w. refl,
)
