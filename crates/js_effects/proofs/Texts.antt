-- Texts that stand in two parts.
use Rattle.std.specs.Prelude.{nat_eq, ◌==◌}
use Rattle.std.proofs.Math.Dec.{eqb-suc-zero}
use Rattle.js_effects.specs.Values.{is_empty}
use Rattle.std.specs.Str.{bytes_eq}
use Rattle.std.proofs.lemmas.Bool.{eq-eqb, eqb-true}
use Rattle.std.proofs.Common.{◌≡◌, ◌≤◌, ◌<◌, ◌∙◌, ℕ, List, [], ◌∷◌, ◌++◌, Bool, true, false, ◌&&◌, length, take, drop, refl, sym, ap, arith}

and_associates : (a b c : Bool) → a && (b && c) ≡ (a && b) && c
and_associates true b c = refl
and_associates false b c = refl

and_false : (a : Bool) → a && false ≡ false
and_false true = refl
and_false false = refl

same_truth : (a b : Bool) → (a ≡ true → b ≡ true) → (b ≡ true → a ≡ true) → a ≡ b
same_truth true b there back = sym (there refl)
same_truth false true there back = back refl
same_truth false false there back = refl

nat_eq_swaps : (x y : ℕ) → nat_eq x y ≡ nat_eq y x
nat_eq_swaps x y = same_truth _ _ (λ h. eq-eqb y x (sym (eqb-true x y h))) (λ h. eq-eqb x y (sym (eqb-true y x h)))

-- a text is two joined ones where it begins with the one and goes on with the other
pub whole_in_two : (w f b : List ℕ) → length f ≤ length w → bytes_eq w (f ++ b) ≡ (bytes_eq (take (length f) w) f && bytes_eq (drop (length f) w) b)
whole_in_two w [] b h = refl
whole_in_two [] (x ∷ f) b h = absurd (omega arith)
whole_in_two (y ∷ w) (x ∷ f) b h = ap (λ (e : Bool). nat_eq y x && e) (whole_in_two w f b (omega arith)) ∙ and_associates (nat_eq y x) (bytes_eq (take (length f) w) f) (bytes_eq (drop (length f) w) b)

pub whole_too_short : (w f b : List ℕ) → length w < length f → bytes_eq w (f ++ b) ≡ false
whole_too_short w [] b h = absurd (omega arith)
whole_too_short [] (x ∷ f) b h = refl
whole_too_short (y ∷ w) (x ∷ f) b h = ap (λ (e : Bool). nat_eq y x && e) (whole_too_short w f b (omega arith)) ∙ and_false _

-- so are two that are both joined, where the first part of the first is the shorter one
pub both_in_two : (f b g c : List ℕ) → length f ≤ length g → bytes_eq (f ++ b) (g ++ c) ≡ (bytes_eq (take (length f) g) f && bytes_eq b (drop (length f) g ++ c))
both_in_two [] b g c h = refl
both_in_two (x ∷ f) b [] c h = absurd (omega arith)
both_in_two (x ∷ f) b (y ∷ g) c h = ap (λ (e : Bool). nat_eq x y && e) (both_in_two f b g c (omega arith)) ∙ and_associates (nat_eq x y) (bytes_eq (take (length f) g) f) (bytes_eq b (drop (length f) g ++ c)) ∙ ap (λ (e : Bool). (e && bytes_eq (take (length f) g) f) && bytes_eq b (drop (length f) g ++ c)) (nat_eq_swaps x y)

-- in either order
pub texts_swap : (xs ys : List ℕ) → bytes_eq xs ys ≡ bytes_eq ys xs
texts_swap [] [] = refl
texts_swap [] (y ∷ ys) = refl
texts_swap (x ∷ xs) [] = refl
texts_swap (x ∷ xs) (y ∷ ys) = ap (λ (e : Bool). e && bytes_eq xs ys) (nat_eq_swaps x y) ∙ ap (λ (e : Bool). nat_eq y x && e) (texts_swap xs ys)

pub empty_text : (xs : List ℕ) → is_empty xs ≡ (length xs == 0)
empty_text [] = refl
empty_text (x ∷ xs) = sym (eqb-suc-zero (length xs))

pub empty_joined : (xs ys : List ℕ) → is_empty (xs ++ ys) ≡ (is_empty xs && is_empty ys)
empty_joined [] ys = refl
empty_joined (x ∷ xs) ys = refl
