-- What two checks make of a pair, either way round.
use Rattle.std.specs.Prelude.{◌≡◌, Option, Some, None}

-- what the first check took, with what the second answers of the other
abbrev pub joined : {A B : Type 0} → A → Option B → Option (A × B)
joined a None = None
joined a (Some b) = Some (a, b)

-- `First x a` says that the first check may answer a of x.
pub data Commutes {X A B : Type 0} (First : X → Option A → Type 0) (Second : X → Option B → Type 0) (x y : X) (result : Option (A × B)) : Type 0 where
  -- the first check takes the first of the pair
  as_given : (a : A) (b : Option B) → First x (Some a) → Second y b → result ≡ joined a b → Commutes First Second x y result
  -- it refuses it, and takes the other
  swapped : (a : A) (b : Option B) → First x None → First y (Some a) → Second x b → result ≡ joined a b → Commutes First Second x y result
  -- it refuses both
  refused : First x None → First y None → result ≡ None → Commutes First Second x y result
