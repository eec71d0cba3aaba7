-- What a module does, by the row below its root.
use Rattle.js_syntax.specs.declared.node_kind.NodeKind.{NodeKind as Kind}
use Rattle.js_syntax.specs.Node.{Forest, nothing, node}
use Rattle.js_meaning.specs.State.{M, unknown}
use Rattle.js_meaning.specs.Host.{Enter}
use Rattle.js_meaning.specs.Run.{module_does}

abbrev pub module_body : Enter → Forest → M
module_body E (node Kind.Statements m a nothing) = module_does E a
module_body E _ = unknown
