use Rattle.std.proofs.Common.{ap, arith}
use Rattle.js_tree.specs.Count.{one_each, node_count}
use Rattle.min_driver.specs.Counting.{work_of}
use Rattle.min_driver.proofs.Counting.{nodes_pushed, work_pushed, none_counted, node_counted, none_looked_at, node_looked_at}
use Rattle.min_driver.proofs.limits.look.Goals as goal

pub returns-in-None-clause-counted : goal.returns-in-None-clause-counted
returns-in-None-clause-counted c =
    omega (arith, nodes_pushed (λ x. x.now) _ _ _ c.in_ok-push.ensures.items, none_counted c.args.nodes.now c.first-item.result c.in-len1-up.len_at_least c.first-item.is c.in-None.is)

pub returns-in-None-clause-less : goal.returns-in-None-clause-less
returns-in-None-clause-less c =
    omega (arith, work_pushed (λ x. x.now) _ _ _ c.in_ok-push.ensures.items, none_looked_at c.args.nodes.now c.first-item.result c.in-len1-up.len_at_least c.first-item.is c.in-None.is)

pub returns-in_ok-push-in-Some-clause-counted : goal.returns-in_ok-push-in-Some-clause-counted
returns-in_ok-push-in-Some-clause-counted c =
    omega (
      arith,
      nodes_pushed (λ x. x.now) _ _ _ c.in_ok-push.ensures.items,
      nodes_pushed (λ x. x.now) _ _ _ c.in_ok-push-in-Some.ensures.items,
      ap node_count c.children.ensures,
      ap one_each c.kind.ensures,
      c.count_of_kind.ensures.own,
      node_counted c.args.nodes.now c.first-item.result c.in-Some.node c.in-len1-up.len_at_least c.first-item.is c.in-Some.is,
    )

pub returns-in_ok-push-in-Some-clause-less : goal.returns-in_ok-push-in-Some-clause-less
returns-in_ok-push-in-Some-clause-less c =
    omega (
      arith,
      work_pushed (λ x. x.now) _ _ _ c.in_ok-push.ensures.items,
      work_pushed (λ x. x.now) _ _ _ c.in_ok-push-in-Some.ensures.items,
      ap work_of c.children.ensures,
      node_looked_at c.args.nodes.now c.first-item.result c.in-Some.node c.in-len1-up.len_at_least c.first-item.is c.in-Some.is,
    )
