-- Lists in another order, where of two items that change places one is such.
use Rattle.std.proofs.Common.{◌≡◌, ◌⊎◌, inl, inr, List, [], ◌∷◌, ◌++◌, subst}
use Rattle.std.specs.List.{AllByRecursion}

pub data Shuffled {X : Type 0} (P : X → Type 0) : List X → List X → Type 0 where
  as_before : {xs : List X} → Shuffled P xs xs
  further_on : {x : X} {xs ys : List X} → Shuffled P xs ys → Shuffled P (x ∷ xs) (x ∷ ys)
  two_change : {x y : X} {xs : List X} → P x ⊎ P y → Shuffled P (x ∷ y ∷ xs) (y ∷ x ∷ xs)
  one_by_one : {xs ys zs : List X} → Shuffled P xs ys → Shuffled P ys zs → Shuffled P xs zs

module _ {X : Type 0} (P : X → Type 0) where
  pub by_equal : (xs ys : List X) → xs ≡ ys → Shuffled P xs ys
  by_equal xs ys e = subst (λ zs. Shuffled P xs zs) e as_before

  pub behind_all : (zs : List X) {xs ys : List X} → Shuffled P xs ys → Shuffled P (zs ++ xs) (zs ++ ys)
  behind_all [] h = h
  behind_all (z ∷ zs) h = further_on (behind_all zs h)

  pub before_all : (zs : List X) {xs ys : List X} → Shuffled P xs ys → Shuffled P (xs ++ zs) (ys ++ zs)
  before_all zs as_before = as_before
  before_all zs (further_on h) = further_on (before_all zs h)
  before_all zs (two_change h) = two_change h
  before_all zs (one_by_one h g) = one_by_one (before_all zs h) (before_all zs g)

  other_one : (x y : X) → P x ⊎ P y → P y ⊎ P x
  other_one x y (inl h) = inr h
  other_one x y (inr h) = inl h

  pub back : {xs ys : List X} → Shuffled P xs ys → Shuffled P ys xs
  back as_before = as_before
  back (further_on h) = further_on (back h)
  back (two_change {x = x} {y = y} h) = two_change (other_one x y h)
  back (one_by_one h g) = one_by_one (back g) (back h)

  -- such an item goes behind others
  one_over : (x : X) → P x → (ys zs : List X) → Shuffled P (x ∷ (ys ++ zs)) (ys ++ (x ∷ zs))
  one_over x h [] zs = as_before
  one_over x h (y ∷ ys) zs = one_by_one (two_change (inl h)) (further_on (one_over x h ys zs))

  -- and so do several
  pub all_over : (xs : List X) → AllByRecursion P xs → (ys zs : List X) → Shuffled P (xs ++ (ys ++ zs)) (ys ++ (xs ++ zs))
  all_over [] h ys zs = as_before
  all_over (x ∷ xs) h ys zs = one_by_one (further_on (all_over xs h.1 ys zs)) (one_over x h.0 ys (xs ++ zs))
