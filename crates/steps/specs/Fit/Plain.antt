-- Which trees have statements of expressions that declare no names, but in functions and classes, as the table of nodes has them.
use Rattle.std.specs.Prelude.{Bool, true, ◌&&◌}
use Rattle.js_syntax.specs.declared.node_kind.NodeKind.{NodeKind as Kind}
use Rattle.js_syntax.specs.Node.{Forest, nothing, node, absent}
use Rattle.js_meaning.specs.Scope.{bound_names}
use Rattle.steps.specs.Naming.Placed.{is_none}

abbrev pub is_plain_statement : Kind → (below : Forest) → Bool
is_plain_statement Kind.ExpressionStatement a = is_none (bound_names a)
is_plain_statement k a = true

abbrev pub has_plain_statements : Forest → Bool
has_plain_statements nothing = true
has_plain_statements (absent r) = has_plain_statements r
has_plain_statements (node k n a r) = is_plain_statement k a && (has_plain_statements a && has_plain_statements r)
