-- The children of a node, one after another.
use Rattle.std.proofs.Common.{◌≡◌, ◌<◌, ◌≤◌, ◌+◌, ◌∙◌, ℕ, List, ◌∷◌, Option, Some, None, length, get_or, drop, drop_of_length-le, ap}
use Rattle.js_syntax.specs.Node.{nothing, node, absent, Tree, row}
use Rattle.js_tree.proofs.Rows.{front_of}

-- the child at a place stands before those behind it
pub child_at : (ts : List (Option Tree)) (i : ℕ) (x : Option Tree) (t : Tree) → i < length ts → x ≡ get_or ts i x → x ≡ Some t → row (drop i ts) ≡ node t.kind t.note t.below (row (drop (i + 1) ts))
child_at ts i x t within at is = ap row (front_of ts i x within at ∙ ap (λ y. y ∷ drop (i + 1) ts) is)

pub none_at : (ts : List (Option Tree)) (i : ℕ) (x : Option Tree) → i < length ts → x ≡ get_or ts i x → x ≡ None → row (drop i ts) ≡ absent (row (drop (i + 1) ts))
none_at ts i x within at is = ap row (front_of ts i x within at ∙ ap (λ y. y ∷ drop (i + 1) ts) is)

pub none_left : (ts : List (Option Tree)) (i : ℕ) → length ts ≤ i → row (drop i ts) ≡ nothing
none_left ts i past = ap row (drop_of_length-le ts past)
