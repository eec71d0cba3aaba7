-- What is left counts no more than the tree, whatever is counted.
use Rattle.std.proofs.Common.{ℕ, ◌≤◌, Bool, true, false, if◌then◌else◌, arith}
use Rattle.js_syntax.specs.declared.node_kind.NodeKind.{NodeKind as Kind}
use Rattle.js_syntax.specs.Node.{Note, Forest, nothing, node, absent, total}
use Rattle.min_pass.specs.declared.around.Row.{Row}
use Rattle.min_pass.specs.declared.around.Row.TheVariants.{Other as other}
use Rattle.min_pass.specs.Around.{row_below}
use Rattle.min_pass.specs.Pass.{is_empty_in, swept, cleared}

module _ (counts : Kind → ℕ) where
  lighter : (b : Bool) (k : Kind) (n : Note) (below rest below_left left : Forest) → total counts below_left ≤ total counts below → total counts left ≤ total counts rest
      → total counts (if b then left else node k n below_left left) ≤ total counts (node k n below rest)
  lighter true k n below rest below_left left inside later = Prim.omega (arith, inside, later)
  lighter false k n below rest below_left left inside later = Prim.omega (arith, inside, later)

  swept_lighter : (row : Row) (t : Forest) → total counts (swept row t) ≤ total counts t
  swept_lighter row nothing = Prim.omega arith
  swept_lighter row (absent rest) = swept_lighter row rest
  swept_lighter row (node k n below rest) = lighter (is_empty_in row k) k n below rest (swept (row_below row k) below) (swept row rest) (swept_lighter (row_below row k) below) (swept_lighter row rest)

  pub cleared_lighter : (t : Forest) → total counts (cleared t) ≤ total counts t
  cleared_lighter t = swept_lighter other t
