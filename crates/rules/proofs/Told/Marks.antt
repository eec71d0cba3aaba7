-- How often a number is a mark of a node that makes a scope.
use Rattle.std.proofs.Common.{◌≡◌, ◌+◌, ℕ, List, [], ◌∷◌, ◌++◌, arith}
use Rattle.js_syntax.specs.declared.node_kind.NodeKind.{NodeKind as Kind}
use Rattle.js_syntax.specs.Node.{Forest, Note, node}
use Rattle.scope_counts.specs.Exact.{count}
use Rattle.rules.specs.Told.Nesting.{own_scope, scope_marks}

pub count_append : (n : ℕ) (xs ys : List ℕ) → count n (xs ++ ys) ≡ count n xs + count n ys
count_append n [] ys = Prim.omega arith
count_append n (x ∷ xs) ys = Prim.omega (arith, count_append n xs ys)

pub marks_of_node : (i : ℕ) (k : Kind) (n : Note) (below rest : Forest) → count i (scope_marks (node k n below rest)) ≡ count i (own_scope k n below) + (count i (scope_marks below) + count i (scope_marks rest))
marks_of_node i k n below rest =
    Prim.omega (arith, count_append i (own_scope k n below) (scope_marks below ++ scope_marks rest), count_append i (scope_marks below) (scope_marks rest))
