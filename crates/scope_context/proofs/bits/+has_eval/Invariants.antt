use Rattle.std.proofs.Common.{◌≡◌, drop}
use Rattle.js_syntax.specs.Node.{row}
use Rattle.js_tree.specs.Weight.{size_of}
use Rattle.scope_rules.specs.Site.{has_eval}
use Rattle.scope_context.proofs.bits.+has_eval.Given as goal

abbrev pub decreases-has_eval : goal.decreases-has_eval
decreases-has_eval l = size_of (row l.nodes.now)

abbrev pub invariant-loop-node : goal.invariant-loop-node
invariant-loop-node l = has_eval (row (drop l.node-index l.nodes)) ≡ has_eval (row l.nodes)
