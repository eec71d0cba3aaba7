-- What is left to be counted of a tree, as rows of its nodes.
use Rattle.std.specs.Prelude.{ℕ, suc, ◌+◌, List, [], ◌∷◌, Option}
use Rattle.js_syntax.specs.Node.{Forest, nothing, node, absent, Tree, row}
use Rattle.js_tree.specs.Count.{node_count}

-- the nodes of several rows
abbrev pub nodes_in : List (List (Option Tree)) → ℕ
nodes_in [] = 0
nodes_in (ts ∷ rows) = node_count (row ts) + nodes_in rows

-- how often something is taken from a row, down to its last node: one for each of its parts, and for its end
abbrev pub work_of : Forest → ℕ
work_of nothing = 1
work_of (absent rest) = suc (work_of rest)
work_of (node k n below rest) = suc (work_of below + work_of rest)

abbrev pub work_in : List (List (Option Tree)) → ℕ
work_in [] = 0
work_in (ts ∷ rows) = work_of (row ts) + work_in rows
