use Rattle.std.proofs.Common.{arith}
use Rattle.min_driver.proofs.Counting.{nodes_pushed, work_pushed}
use Rattle.min_driver.proofs.limits.count_flat.Goals as goal

pub returns-then-count : goal.returns-then-count
returns-then-count c = record {
  exact = omega (arith, c.loop-nodes.invariant.counted, c.loop-nodes.invariant.few, nodes_pushed (λ x. x.now) _ _ _ c.in-Some.ensures.items, c.in_ok-left.ensures.counted, c.in_ok-left.ensures.one, c.if-count.true);
}

pub loop-nodes-smaller : goal.loop-nodes-smaller
loop-nodes-smaller c = omega (arith, work_pushed (λ x. x.now) _ _ _ c.in-Some.ensures.items, c.in_ok-left.ensures.less)

pub loop-nodes-preserved : goal.loop-nodes-preserved
loop-nodes-preserved c = record {
  counted = omega (arith, c.loop-nodes.invariant.counted, nodes_pushed (λ x. x.now) _ _ _ c.in-Some.ensures.items, c.in_ok-left.ensures.counted);
  few = omega (arith, c.if-count.false);
}
