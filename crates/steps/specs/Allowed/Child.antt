-- The children of a node, by their index.
use Rattle.std.specs.Prelude.{ℕ, zero, suc, Option, Some, None}
use Rattle.js_syntax.specs.Node.{Forest, Tree, nothing, node, absent}

abbrev pub child_at : ℕ → Forest → Option Tree
child_at i nothing = None
child_at zero (node k n below rest) = Some (record { kind = k; note = n; below = below })
child_at zero (absent rest) = None
child_at (suc i) (node k n below rest) = child_at i rest
child_at (suc i) (absent rest) = child_at i rest
