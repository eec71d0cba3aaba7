-- Whether `var` declares a name in a statement, outside of functions and classes.
use Rattle.std.specs.Prelude.{Bool, true, false, ◌&&◌, ◌||◌, if◌then◌else◌}
use Rattle.js_syntax.specs.declared.node_kind.NodeKind.{NodeKind as Kind}
use Rattle.js_syntax.specs.declared.node_kind.NodeKind.TheVariants.{Declarators as declarators}
use Rattle.js_syntax.specs.Node.{Forest, nothing, node, absent}
use Rattle.kept_names.specs.Kept.{is_var, holds_statements}

abbrev pub has_node : Forest → Bool
has_node nothing = false
has_node (absent rest) = has_node rest
has_node (node k n below rest) = true

abbrev pub has_declarator : (below : Forest) → Bool
has_declarator (node declarators n ds rest) = has_node ds
has_declarator below = false

abbrev pub has_vars_at : Kind → (below : Forest) → (inner : Bool) → Bool
has_vars_at k below inner = if is_var k then has_declarator below else (holds_statements k && inner)

abbrev pub has_vars : Forest → Bool
has_vars nothing = false
has_vars (absent rest) = has_vars rest
has_vars (node k n below rest) = has_vars_at k below (has_vars below) || has_vars rest
