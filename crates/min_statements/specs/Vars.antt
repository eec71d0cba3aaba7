-- What is looked at where `var` declares in a statement.
use Rattle.std.specs.Prelude.{Bool, true, false, if◌then◌else◌}
use Rattle.js_syntax.specs.declared.node_kind.NodeKind.{NodeKind as Kind}
use Rattle.js_syntax.specs.declared.node_kind.NodeKind.TheVariants.{BindingName as binding_name}
use Rattle.js_syntax.specs.Node.{Forest, nothing, node}
use Rattle.steps.specs.VarNames.Declared.{is_code, without_vars}

-- a name, below which nothing stands
abbrev pub is_name_alone : Kind → (below : Forest) → Bool
is_name_alone (binding_name x) nothing = true
is_name_alone k below = false

-- the row of a declarator of it
abbrev pub starts_with_name : (parts : Forest) → Bool
starts_with_name (node k n below rest) = is_name_alone k below
starts_with_name parts = false

-- what lies below a node, without `var` declarations, but for those in functions and classes
abbrev pub without_vars_below : Kind → (below : Forest) → Forest
without_vars_below k below = if is_code k then below else without_vars below
