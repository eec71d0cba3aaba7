use Rattle.std.proofs.Common.{◌≡◌, ◌+◌, drop}
use Rattle.js_syntax.specs.Node.{row, forest_of}
use Rattle.js_tree.specs.Weight.{tree_size}
use Rattle.scope_rules.specs.Context.{inside}
use Rattle.scope_rules.specs.Site.{scope_count, sites, added}
use Rattle.scope_walk.specs.Walk.{node_sites}
use Rattle.scope_walk.proofs.walk.+add_sites.Given as goal

abbrev pub decreases-add_sites : goal.decreases-add_sites
decreases-add_sites l = tree_size l.node.now

abbrev pub invariant-loop-at : goal.invariant-loop-at
invariant-loop-at l = record {
  next : l.next + scope_count (row (drop l.at l.children)) ≡ l.fn.next + scope_count (forest_of l.node);
  found : added l.found (sites (inside l.context l.scope l.node.kind l.node.below) l.at l.next (row (drop l.at l.children))) ≡ added l.fn.found (node_sites l.context l.fn.next l.node);
}
