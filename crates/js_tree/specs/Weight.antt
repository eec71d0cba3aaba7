-- How many nodes a tree has: each child has fewer than its parent.
use Rattle.std.specs.Prelude.{ℕ, ◌+◌, ◌≤◌, List, [], ◌∷◌, Option, Some, None}
use Rattle.std.proofs.Common.{arith}
use denote.Param.Weighed.{most}
use Rattle.js_syntax.specs.Node.{Forest, Tree, row, total}

abbrev pub size_of : Forest → ℕ
size_of t = total (λ _. 1) t

abbrev pub tree_size : Tree → ℕ
tree_size t = 1 + size_of t.below

-- no child is larger than all of them together
pub most_in_row : (larger : Option Tree → ℕ) → (larger None ≤ 1) → ((t : Tree) → larger (Some t) ≤ 1 + tree_size t) → (ts : List (Option Tree)) → most larger ts ≤ 1 + size_of (row ts)
most_in_row larger absent present [] = omega arith
most_in_row larger absent present (None ∷ ts) = omega (arith, absent, most_in_row larger absent present ts)
most_in_row larger absent present (Some t ∷ ts) = omega (arith, present t, most_in_row larger absent present ts)
