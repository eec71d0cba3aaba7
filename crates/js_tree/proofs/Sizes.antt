-- How large the nodes of a row are: the measure of each recursion over a tree.
use Rattle.std.proofs.Common.{◌≡◌, ◌<◌, ◌≤◌, ℕ, zero, suc, List, [], ◌∷◌, Option, Some, None, length, get_or, slice_get, ap, arith}
use Rattle.js_syntax.specs.Node.{Tree, row}
use Rattle.js_tree.specs.Weight.{size_of, tree_size}

abbrev pub child_size : Option Tree → ℕ
child_size None = 0
child_size (Some t) = tree_size t

-- a node of a row is no larger than the row
pub item_smaller : (ts : List (Option Tree)) (i : ℕ) (t : Option Tree) → i < length ts → t ≡ get_or ts i t → child_size t ≤ size_of (row ts)
item_smaller [] i t h is = absurd (omega arith)
item_smaller (None ∷ ts) zero t h is = rw is (omega arith)
item_smaller (Some u ∷ ts) zero t h is = rw is (omega arith)
item_smaller (None ∷ ts) (suc i) t h is = item_smaller ts i t (omega arith) is
item_smaller (Some u ∷ ts) (suc i) t h is = omega (arith, item_smaller ts i t (omega arith) is)

-- and smaller than the node above it
pub child_smaller : (ts : List (Option Tree)) (i : ℕ) (x : Option Tree) (t parent : Tree) → i < length ts → x ≡ get_or ts i x → x ≡ Some t → row ts ≡ parent.below → tree_size t < tree_size parent
child_smaller ts i x t parent h at is below =
    let smaller : tree_size t ≤ size_of (row ts) = rw is at (item_smaller ts i x h at) in
    omega (arith, smaller, ap size_of below)

one_sized : (x : Option Tree) → size_of (row (x ∷ [])) ≤ child_size x
one_sized None = omega arith
one_sized (Some t) = omega arith

pub row_smaller : (ts : List (Option Tree)) (i : ℕ) (x : Option Tree) (parent : Tree) → i < length ts → x ≡ get_or ts i x → row ts ≡ parent.below → size_of (row (x ∷ [])) < tree_size parent
row_smaller ts i x parent h at below = omega (arith, one_sized x, item_smaller ts i x h at, ap size_of below)

-- what lies below the first node of a row
pub first_smaller : (ts : List (Option Tree)) (x : Option Tree) (t : Tree) → Some x ≡ slice_get ts 0 → x ≡ Some t → size_of t.below < size_of (row ts)
first_smaller [] x t h is = absurd (cc (h))
first_smaller (None ∷ ts) x t h is = absurd (cc (h, is))
first_smaller (Some u ∷ ts) x t h is = let same : u ≡ t = cc (h, is) in rw same (omega arith)

pub rest_smaller : (x : Option Tree) (xs : List (Option Tree)) → size_of (row xs) ≤ size_of (row (x ∷ xs))
rest_smaller None xs = omega arith
rest_smaller (Some t) xs = omega arith
