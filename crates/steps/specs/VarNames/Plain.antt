-- Whether `var` declares in a statement by plain names alone, and by no pattern, where its names may stay.
use Rattle.std.specs.Prelude.{Bool, true, false, ◌&&◌, if◌then◌else◌}
use Rattle.js_syntax.specs.declared.node_kind.NodeKind.{NodeKind as Kind}
use Rattle.js_syntax.specs.declared.node_kind.NodeKind.TheVariants.{BindingName as binding_name, Declarators as declarators, VariableDeclarator as variable_declarator}
use Rattle.js_syntax.specs.Node.{Forest, nothing, node, absent}
use Rattle.kept_names.specs.Kept.{is_var, holds_statements}

-- of a declarator
abbrev pub binds_name : Kind → (below : Forest) → Bool
binds_name variable_declarator (node (binding_name x) n nothing value) = true
binds_name k below = false

abbrev pub bind_names : Forest → Bool
bind_names nothing = true
bind_names (absent rest) = bind_names rest
bind_names (node k n below rest) = binds_name k below && bind_names rest

-- of what lies below a declaration
abbrev pub has_names : (below : Forest) → Bool
has_names (node declarators n ds nothing) = bind_names ds
has_names below = false

-- of a node, given that of what lies below it
abbrev pub vars_bind_names_at : Kind → (below : Forest) → (inner : Bool) → Bool
vars_bind_names_at k below inner = if is_var k then has_names below else if holds_statements k then inner else true

abbrev pub vars_bind_names : Forest → Bool
vars_bind_names nothing = true
vars_bind_names (absent rest) = vars_bind_names rest
vars_bind_names (node k n below rest) = vars_bind_names_at k below (vars_bind_names below) && vars_bind_names rest
