-- What a field gives to the row below its node.
use Rattle.std.specs.Prelude.{[], ◌∷◌, Option, Some, None}
use Rattle.js_syntax.specs.Node.{Forest, nothing, Tree, row}

-- nothing where the field is no node; a node, or one that is not there
abbrev pub held_row : Option (Option Tree) → Forest
held_row None = nothing
held_row (Some t) = row (t ∷ [])
