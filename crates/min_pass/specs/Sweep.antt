-- The same, one node after another.
use Rattle.std.specs.Prelude.{Bool, false, Option, Some, None}
use Rattle.js_syntax.specs.Node.{Tree}
use Rattle.min_pass.specs.declared.around.Row.{Row}
use Rattle.min_pass.specs.Around.{row_below}
use Rattle.min_pass.specs.Pass.{is_empty_in, swept}

abbrev pub goes_from : Row → Option Tree → Bool
goes_from row None = false
goes_from row (Some t) = is_empty_in row t.kind

abbrev pub swept_node : Row → Tree → Tree
swept_node row t = record { kind = t.kind; note = t.note; below = swept (row_below row t.kind) t.below }

abbrev pub swept_child : Row → Option Tree → Option Tree
swept_child row None = None
swept_child row (Some t) = Some (swept_node row t)
