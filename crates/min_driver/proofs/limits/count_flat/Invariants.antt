use Rattle.std.proofs.Common.{◌≡◌, ◌≤◌, ◌+◌, map}
use Rattle.js_syntax.specs.Node.{forest_of}
use Rattle.js_tree.specs.Count.{node_count}
use Rattle.min_driver.specs.Counting.{nodes_in, work_in}
use Rattle.min_driver.proofs.limits.count_flat.Given as goal

abbrev pub invariant-loop-nodes : goal.invariant-loop-nodes
invariant-loop-nodes l = record {
  counted : l.count + nodes_in (map (λ x. x.now) l.rows.items) ≡ node_count (forest_of l.fn.program);
  few : l.count ≤ 16777216;
}

abbrev pub decreases-loop-nodes : goal.decreases-loop-nodes
decreases-loop-nodes l = work_in (map (λ x. x.now) l.rows.items)
