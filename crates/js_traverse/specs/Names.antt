-- The name of a node that is a name.
use Rattle.std.specs.Prelude.{ℕ, List, Option, Some, None}
use Rattle.js_syntax.specs.declared.node_kind.NodeKind.{NodeKind as Kind}
use Rattle.js_syntax.specs.declared.node_kind.NodeKind.TheVariants.{BindingName as binding_name, ReferenceName as reference_name, TargetName as target_name}

-- that it declares
abbrev pub declared_name : Kind → Option (List ℕ)
declared_name (binding_name name) = Some name
declared_name kind = None

-- that it refers by
abbrev pub used_name : Kind → Option (List ℕ)
used_name (reference_name name) = Some name
used_name (target_name name) = Some name
used_name kind = None
