use Rattle.std.proofs.Common.{◌∙◌}
use Rattle.js_syntax.specs.Node.{row}
use Rattle.min_imports.proofs.Naming.{namespace_so, namespace_not}
use Rattle.min_imports.proofs.passed.namespace_passed.Goals as goal

pub returns-then-is_namespace : goal.returns-then-is_namespace
returns-then-is_namespace c = c.only_exported.ensures ∙ namespace_so (row c.args.names.now) (row c.args.specifiers.now) c.is_namespace.result c.is_namespace.ensures c.if-is_namespace.true

pub returns-else-is_namespace : goal.returns-else-is_namespace
returns-else-is_namespace c = namespace_not (row c.args.names.now) (row c.args.specifiers.now) c.is_namespace.result c.is_namespace.ensures c.if-is_namespace.false
