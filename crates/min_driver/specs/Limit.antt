-- How large a program may be.
use Rattle.std.specs.Prelude.{ℕ, ◌≤◌, ◌^◌}
use Rattle.js_syntax.specs.Node.{Forest}
use Rattle.js_tree.specs.Count.{node_count, levels}

abbrev pub max_nodes : ℕ
max_nodes = 2 ^ 24

abbrev pub max_levels : ℕ
max_levels = 1000

pub record IsWithinLimits (t : Forest) : Type 0 where
  pub nodes : node_count t ≤ max_nodes
  pub levels : levels t ≤ max_levels

abbrev pub IsTooLarge : Forest → Type 0
IsTooLarge t = IsWithinLimits t → ⊥
