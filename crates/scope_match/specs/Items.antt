-- Lists that have the same items in any order.
use Rattle.std.specs.Prelude.{◌≡◌, ◌↔◌, List, [], ◌∷◌, Bool, true, false, not, ◌&&◌, ◌||◌}
use Rattle.std.specs.Ordering.{is_eq}
use Rattle.std.specs.declared.cmp.Ordering.{Ordering}
use Rattle.std.specs.List.{list_any}
use Rattle.scope_laws.specs.Exact.{Among, NoneTwice}

-- the items of the second list, in any order, and none twice
abbrev pub SameItems : {X : Type 0} → List X → List X → Type 0
SameItems {X} xs ys = NoneTwice xs × ((x : X) → Among x xs ↔ Among x ys)

-- ---- the same by a test, as sets find it

module _ {K : Type 0} (cmp : K → K → Ordering) where
  abbrev pub is_among : K → List K → Bool
  is_among q xs = list_any (λ x. is_eq (cmp x q)) xs

  -- each item is met for the first time, where `has` tells which were met before
  abbrev pub each_new : (has : K → Bool) → List K → Bool
  each_new has [] = true
  each_new has (x ∷ xs) = not (has x) && each_new (λ q. is_eq (cmp x q) || has q) xs

  abbrev pub SameBy : List K → List K → Type 0
  SameBy xs ys = (each_new (λ q. false) xs ≡ true) × ((q : K) → is_among q xs ≡ is_among q ys)
