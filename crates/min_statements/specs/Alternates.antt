-- Whether an `if` has an alternate that is empty, and the row without it.
use Rattle.std.specs.Prelude.{ℕ, zero, suc, Bool, false}
use Rattle.js_syntax.specs.declared.node_kind.NodeKind.{NodeKind as Kind}
use Rattle.js_syntax.specs.declared.node_kind.NodeKind.TheVariants.{IfStatement as if_statement}
use Rattle.js_syntax.specs.Node.{Forest, nothing, node, absent}
use Rattle.min_statements.specs.Ifs.{Branches, both, one, last, others, branches_of}
use Rattle.min_statements.specs.Tests.{is_empty}

abbrev pub drops_alternate : Branches → Bool
drops_alternate (both t x y) = is_empty y
drops_alternate b = false

abbrev pub has_empty_alternate : Kind → (parts : Forest) → Bool
has_empty_alternate if_statement parts = drops_alternate (branches_of parts)
has_empty_alternate k parts = false

-- nothing stands in the field at an index then
abbrev pub cleared_at : ℕ → Forest → Forest
cleared_at at nothing = nothing
cleared_at zero (absent rest) = absent rest
cleared_at zero (node k n below rest) = absent rest
cleared_at (suc at) (absent rest) = absent (cleared_at at rest)
cleared_at (suc at) (node k n below rest) = node k n below (cleared_at at rest)
