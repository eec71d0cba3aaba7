-- A tree without the empty statements of its lists.
use Rattle.std.specs.Prelude.{Bool, true, false, None, if◌then◌else◌}
use Rattle.js_syntax.specs.declared.node_kind.NodeKind.{NodeKind as Kind}
use Rattle.js_syntax.specs.declared.node_kind.NodeKind.TheVariants.{EmptyStatement as empty_statement}
use Rattle.js_syntax.specs.Node.{Forest, nothing, node, absent, Note}
use Rattle.min_pass.specs.declared.around.Row.{Row}
use Rattle.min_pass.specs.declared.around.Row.TheVariants.{Items as items, Other as other}
use Rattle.min_pass.specs.Around.{row_below}

abbrev pub is_given : Forest → Bool
is_given (node k n below rest) = true
is_given t = false

abbrev pub is_empty_in : Row → Kind → Bool
is_empty_in items empty_statement = true
is_empty_in row k = false

abbrev pub unmarked : Note → Note
unmarked n = record { span = n.span; id = None }

-- a row of a tree
abbrev pub swept : Row → Forest → Forest
swept row nothing = nothing
swept row (absent rest) = absent (swept row rest)
swept row (node k n below rest) = if is_empty_in row k then swept row rest else node k n (swept (row_below row k) below) (swept row rest)

abbrev pub cleared : Forest → Forest
cleared t = swept other t
