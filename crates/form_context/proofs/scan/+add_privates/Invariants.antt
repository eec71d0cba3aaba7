use Rattle.std.proofs.Common.{◌≡◌, ◌++◌, drop, map}
use Rattle.js_syntax.specs.Node.{row}
use Rattle.js_tree.specs.Weight.{size_of}
use Rattle.form_rules.specs.Context.{privates_of}
use Rattle.form_context.proofs.scan.+add_privates.Given as goal

abbrev pub decreases-add_privates : goal.decreases-add_privates
decreases-add_privates l = size_of (row l.nodes.now)

abbrev pub invariant-loop-node : goal.invariant-loop-node
invariant-loop-node l = map (λ s. s.now) l.found.items ++ privates_of (row (drop l.node-index l.nodes)) ≡ map (λ s. s.now) l.fn.found.items ++ privates_of (row l.nodes)
