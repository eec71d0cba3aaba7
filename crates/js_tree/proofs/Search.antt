-- What holds of one of the nodes of a row holds of the row, for questions that are asked of the nodes one by one.
use Rattle.std.proofs.Common.{◌≡◌, ◌<◌, ◌≤◌, ◌+◌, ◌∙◌, ℕ, zero, suc, List, [], ◌∷◌, Bool, true, false, ◌||◌, Option, length, drop, get_or, refl, sym, ap, arith}
use Rattle.std.proofs.lemmas.List.{drop_all}
use Rattle.js_syntax.specs.Node.{Forest, Tree, row}
use Rattle.js_tree.proofs.Rows.{front_of}

or_true : (a : Bool) → a || true ≡ true
or_true true = refl
or_true false = refl

abbrev pub AsksEach : (Forest → Bool) → Type 0
AsksEach f = (t : Option Tree) (ts : List (Option Tree)) → f (row (t ∷ ts)) ≡ f (row (t ∷ [])) || f (row ts)

pub found_at : (f : Forest → Bool) → AsksEach f → (xs : List (Option Tree)) (i : ℕ) (x : Option Tree) → i < length xs → x ≡ get_or xs i x → f (row (x ∷ [])) ≡ true → f (row xs) ≡ true
found_at f each [] i x h is told = absurd (omega arith)
found_at f each (y ∷ ys) zero x h is told = each y ys ∙ ap (λ (b : Bool). b || f (row ys)) (ap (λ z. f (row (z ∷ []))) (sym is) ∙ told)
found_at f each (y ∷ ys) (suc i) x h is told = each y ys ∙ ap (λ (b : Bool). f (row (y ∷ [])) || b) (found_at f each ys i x (omega arith) is told) ∙ or_true (f (row (y ∷ [])))

-- no such node so far
pub rest_of : (f : Forest → Bool) → AsksEach f → (xs : List (Option Tree)) (i : ℕ) (x : Option Tree) → i < length xs → x ≡ get_or xs i x → f (row (x ∷ [])) ≡ false
    → f (row xs) ≡ f (row (drop i xs)) → f (row xs) ≡ f (row (drop (i + 1) xs))
rest_of f each xs i x h is told so_far =
    so_far ∙ ap (λ ys. f (row ys)) (front_of xs i x h is) ∙ each x (drop (i + 1) xs) ∙ ap (λ (b : Bool). b || f (row (drop (i + 1) xs))) told

pub none_found : (f : Forest → Bool) (xs : List (Option Tree)) (i : ℕ) → f (row []) ≡ false → length xs ≤ i → f (row xs) ≡ f (row (drop i xs)) → f (row xs) ≡ false
none_found f xs i none h so_far = so_far ∙ ap (λ ys. f (row ys)) (drop_all i xs h) ∙ none
