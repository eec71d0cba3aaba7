-- What two checks made of a pair, by what they answered.
use Rattle.std.proofs.Common.{◌≡◌, Option, Some, None, subst}
use Rattle.min_expressions.specs.Pair.{joined, Commutes, as_given, swapped}

module _ {X A B : Type 0} (First : X → Option A → Type 0) (Second : X → Option B → Type 0) (x y : X) {result : Option (A × B)} where
  pub taken : {o : Option A} (a : A) {b : Option B} → First x o → o ≡ Some a → Second y b → result ≡ joined a b → Commutes First Second x y result
  taken a {b = b} f e s r = as_given a b (subst (First x) e f) s r

  pub taken_swapped : {o p : Option A} (a : A) {b : Option B} → First x o → o ≡ None → First y p → p ≡ Some a → Second x b → result ≡ joined a b → Commutes First Second x y result
  taken_swapped a {b = b} f e g h s r = swapped a b (subst (First x) e f) (subst (First y) h g) s r
