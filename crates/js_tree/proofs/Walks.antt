-- A walk over one more node.
use Rattle.std.proofs.Common.{◌≡◌, ◌<◌, ◌≤◌, ◌+◌, ◌++◌, ℕ, Bool, List, [], ◌∷◌, Option, Some, None, length, take, get_or}
use Rattle.std.proofs.lemmas.List.{take_all, take_more}
use Rattle.js_syntax.specs.Node.{Tree, row, forest_of}
use Rattle.js_tree.specs.Walk.{Walks}

module _ {S : Type 0} (R : S → Tree → Bool → S → Type 0) where
  push : (ts : List (Option Tree)) (t : Option Tree) (a m c : S) → Walks R (row ts) a m → Walks R (row (t ∷ [])) m c → Walks R (row (ts ++ t ∷ [])) a c
  push [] t a m c first next = rw first next
  push (None ∷ ts) t a m c first next = push ts t a m c first next
  push (Some x ∷ ts) t a m c first next = (first.0, first.1, push ts t first.0 m c first.2 next)

  pub one_more : (ts : List (Option Tree)) (i : ℕ) (x : Option Tree) (a m c : S) → i < length ts → x ≡ get_or ts i x → Walks R (row (take i ts)) a m → Walks R (row (x ∷ [])) m c
      → Walks R (row (take (i + 1) ts)) a c
  one_more ts i x a m c h is first next = rw (take_more ts i x h, ← is) (push (take i ts) x a m c first next)

  pub one_node : (t : Tree) (a c : S) → Walks R (forest_of t) a c → Walks R (row (Some t ∷ [])) a c
  one_node t a c h = h

  pub all_walked : (ts : List (Option Tree)) (i : ℕ) (a c : S) → length ts ≤ i → Walks R (row (take i ts)) a c → Walks R (row ts) a c
  all_walked ts i a c h walked = rw (take_all i ts h) at walked
