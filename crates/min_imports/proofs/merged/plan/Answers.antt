use Rattle.std.proofs.Common.{ap, subst, length, arith}
use Rattle.min_imports.specs.Merging.{planned, ItemGoes}
use Rattle.min_imports.proofs.Planning.{so_begins, so_more, so_ends}
use Rattle.min_imports.proofs.merged.plan.Goals as goal

pub loop-item-init : goal.loop-item-init
loop-item-init c = so_begins c.args.items.now _ _ _ c.new-staying.ensures.items c.new-changed.ensures.items

pub item_goes-requires : goal.item_goes-requires
item_goes-requires c = record {
  even = omega (arith, ap length c.as_slice.ensures.value, c.loop-item.invariant.even, c.loop-item.invariant.long);
  within = omega (arith, ap length c.as_slice.ensures.value, c.loop-item.invariant.long, c.loop-item-test.true);
}

pub loop-item-preserved : goal.loop-item-preserved
loop-item-preserved c =
    so_more c.args.items.now c.loop-item.item-index c.loop-item.ended c.ends_at-ended.result c.loop-item.sources c.item_goes.new.sources c.loop-item.staying.items c.push.new.self.items c.loop-item.changed.items c.item_goes.new.changed.items c.push-in-loop-item.new.self.items
    c.item-item.result c.in_ok-is_gone.is_gone c.loop-item.invariant c.loop-item-test.true c.item-item.is c.ends_at-ended.ensures
    (subst (λ l. ItemGoes c.ends_at-ended.result c.loop-item.sources (planned c.args.items.now l c.loop-item.changed.items) c.item-item.result c.in_ok-is_gone.is_gone c.item_goes.new.sources (planned c.args.items.now l c.item_goes.new.changed.items)) c.as_slice.ensures.value c.in_ok-is_gone.ensures.goes)
    c.in_ok-is_gone.ensures.even c.in_ok-push.ensures.items c.in_ok-push-2.ensures.items

pub returns : goal.returns
returns c = so_ends c.args.items.now c.loop-item.item-index c.loop-item.ended c.loop-item.sources c.loop-item.staying.items c.loop-item.changed.items c.loop-item.invariant (omega (arith, c.loop-item-test.false))
