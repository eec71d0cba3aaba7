-- A tree has no more declarations and references than nodes.
use Rattle.std.proofs.Common.{◌≤◌, length, arith}
use Rattle.js_syntax.specs.Node.{Forest}
use Rattle.js_tree.specs.Count.{node_count}
use Rattle.scope_rules.specs.Context.{outermost}
use Rattle.scope_rules.proofs.Counts.{no_more_bindings, no_more_references}
use Rattle.scope_laws.proofs.Around.{bindings_count, references_count}
use Rattle.js_scoping.specs.Build.{found_of}
