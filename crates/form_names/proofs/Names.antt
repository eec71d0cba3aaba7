-- The bytes of a name, one after another.
use Rattle.std.proofs.Common.{◌≡◌, ◌<◌, ◌≤◌, ◌+◌, ◌∙◌, ℕ, List, [], ◌∷◌, Bool, true, false, ◌||◌, ◌&&◌, length, drop, get_or, drop-cons, add-one, refl, sym, ap, take, arith, length-drop, ◌-◌}
use Rattle.std.proofs.lemmas.List.{drop_all, take_all}
use Rattle.json_text.specs.Text.{starts_name, is_between, continues_name, is_identifier_name}

abbrev in_name : ℕ → Bool
in_name c = starts_name c || is_between 48 57 c

here : (xs : List ℕ) (i : ℕ) → i < length xs → continues_name (drop i xs) ≡ in_name (get_or xs i 0) && continues_name (drop (i + 1) xs)
here xs i h = rw add-one (ap continues_name (drop-cons xs i 0 h))

pub stops : (xs : List ℕ) (i : ℕ) → i < length xs → in_name (get_or xs i 0) ≡ false → continues_name xs ≡ continues_name (drop i xs) → continues_name xs ≡ false
stops xs i h told so_far = so_far ∙ here xs i h ∙ ap (λ (b : Bool). b && continues_name (drop (i + 1) xs)) told

pub goes_on : (xs : List ℕ) (i : ℕ) → i < length xs → in_name (get_or xs i 0) ≡ true → continues_name xs ≡ continues_name (drop i xs) → continues_name xs ≡ continues_name (drop (i + 1) xs)
goes_on xs i h told so_far = so_far ∙ here xs i h ∙ ap (λ (b : Bool). b && continues_name (drop (i + 1) xs)) told

pub all_in_name : (xs : List ℕ) (i : ℕ) → length xs ≤ i → continues_name xs ≡ continues_name (drop i xs) → continues_name xs ≡ true
all_in_name xs i h so_far = so_far ∙ ap continues_name (drop_all i xs h)

-- ---- the whole text

pub no_name : (xs ys : List ℕ) → ys ≡ xs → length ys < 1 → false ≡ is_identifier_name xs
unfolding is_identifier_name
no_name [] ys is h = refl
no_name (x ∷ xs) ys is h = absurd (omega (arith, ap length is))

name_by_parts : (xs : List ℕ) → 1 ≤ length xs → starts_name (get_or xs 0 0) && continues_name (drop 1 xs) ≡ is_identifier_name xs
unfolding is_identifier_name
name_by_parts [] h = absurd (omega arith)
name_by_parts (x ∷ xs) h = refl

pub starts_well : (xs ys : List ℕ) (b r : Bool) → ys ≡ xs → 1 ≤ length ys → b ≡ starts_name (get_or ys 0 0) → b ≡ true → r ≡ continues_name (take (length ys - 1) (drop 1 ys)) → r ≡ is_identifier_name xs
starts_well xs ys b r is h first yes_b rest =
    rest ∙ ap continues_name (take_all (length ys - 1) (drop 1 ys) (omega (arith, length-drop 1 ys)))
    ∙ ap (λ (x : Bool). x && continues_name (drop 1 ys)) (sym (sym first ∙ yes_b)) ∙ name_by_parts ys h ∙ ap is_identifier_name is

pub starts_badly : (xs ys : List ℕ) (b : Bool) → ys ≡ xs → 1 ≤ length ys → b ≡ starts_name (get_or ys 0 0) → b ≡ false → b ≡ is_identifier_name xs
starts_badly xs ys b is h first no_b =
    no_b ∙ ap (λ (x : Bool). x && continues_name (drop 1 ys)) (sym (sym first ∙ no_b)) ∙ name_by_parts ys h ∙ ap is_identifier_name is
