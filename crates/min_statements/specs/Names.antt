-- The symbol of a name.
use Rattle.std.specs.Prelude.{ℕ, Option, None}
use Rattle.js_syntax.specs.declared.node_kind.NodeKind.{NodeKind as Kind}
use Rattle.js_syntax.specs.declared.node_kind.NodeKind.TheVariants.{BindingName as binding_name}
use Rattle.js_syntax.specs.Node.{Note}

abbrev pub symbol_of : Kind → Note → Option ℕ
symbol_of (binding_name x) n = n.id
symbol_of k n = None
