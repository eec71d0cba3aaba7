use Rattle.std.proofs.Common.{◌≡◌, drop}
use Rattle.js_syntax.specs.Node.{row}
use Rattle.js_tree.specs.Weight.{size_of}
use Rattle.scope_table.specs.Refreshing.{eval_scopes, marked_around}
use Rattle.scope_table.proofs.scoping.Scoping.+mark_in.Given as goal

abbrev pub decreases-mark_in : goal.decreases-mark_in
decreases-mark_in l = size_of (row l.nodes.now)

abbrev pub invariant-loop-child : goal.invariant-loop-child
invariant-loop-child l = marked_around (eval_scopes (row (drop l.child-index l.nodes))) l.self ≡ marked_around (eval_scopes (row l.nodes)) l.fn.self
