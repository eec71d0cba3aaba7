-- What stands in lists that are joined or mapped.
use Rattle.std.proofs.Common.{◌≡◌, ◌⊎◌, List, [], ◌∷◌, ◌++◌, map, inl, inr, refl, ap}
use Rattle.scope_laws.specs.Exact.{Among}

pub among_left : {X : Type 0} (x : X) (xs ys : List X) → Among x xs → Among x (xs ++ ys)
among_left x [] ys h = absurd h
among_left x (z ∷ xs) ys (inl e) = inl e
among_left x (z ∷ xs) ys (inr h) = inr (among_left x xs ys h)

pub among_right : {X : Type 0} (x : X) (xs ys : List X) → Among x ys → Among x (xs ++ ys)
among_right x [] ys h = h
among_right x (z ∷ xs) ys h = inr (among_right x xs ys h)

pub among_cases : {X : Type 0} (x : X) (xs ys : List X) → Among x (xs ++ ys) → Among x xs ⊎ Among x ys
among_cases x [] ys h = inr h
among_cases x (z ∷ xs) ys (inl e) = inl (inl e)
among_cases x (z ∷ xs) ys (inr h) = elim (among_cases x xs ys h) [
  | inl k ↦ inl (inr k)
  | inr k ↦ inr k
]

pub among_map : {X Y : Type 0} (f : X → Y) (x : X) (xs : List X) → Among x xs → Among (f x) (map f xs)
among_map f x [] h = h
among_map f x (y ∷ ys) (inl e) = inl (ap f e)
among_map f x (y ∷ ys) (inr h) = inr (among_map f x ys h)

pub record Image {X Y : Type 0} (f : X → Y) (xs : List X) (y : Y) : Type 0 where
  pub item : X
  pub stands : Among item xs
  pub gives : f item ≡ y

pub image : {X Y : Type 0} (f : X → Y) (xs : List X) (y : Y) → Among y (map f xs) → Image f xs y
image f [] y h = absurd h
image f (x ∷ xs) y (inl e) = record { item = x; stands = inl refl; gives = e }
image f (x ∷ xs) y (inr h) = let i = image f xs y h in record { item = i.item; stands = inr i.stands; gives = i.gives }
