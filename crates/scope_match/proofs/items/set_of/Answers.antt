use Rattle.std.specs.BTreeSet.{contains}
use Rattle.scope_match.specs.Items.{is_among}
use Rattle.scope_match.proofs.Sets.{among_more, among_all}
use Rattle.scope_match.proofs.items.set_of.Goals as goal

pub loop-item-preserved : goal.loop-item-preserved
loop-item-preserved g c = λ q.
    among_more g.T.Ord.cmp c.args.items.now c.loop-item.item-index c.item-item.result q (contains g.T.Ord.cmp c.loop-item.set q) (contains g.T.Ord.cmp c.insert.new.self q) (is_among g.T.Ord.cmp q c.args.items.now)
    c.loop-item-test.true c.item-item.is (c.in_ok-insert.ensures.updates.0 q) (c.loop-item.invariant q)

pub returns : goal.returns
returns g c = λ q. among_all g.T.Ord.cmp c.args.items.now c.loop-item.item-index q (contains g.T.Ord.cmp c.loop-item.set q) (is_among g.T.Ord.cmp q c.args.items.now) c.loop-item-test.false (c.loop-item.invariant q)
