use Rattle.std.proofs.Common.{rules, vec_len, ◌≡◌, ◌∙◌, ℕ, List, length, ap, subst, arith}
use Rattle.min_imports.specs.Merging.{planned}
use Rattle.min_imports.specs.Passing.{ItemPasses, widened_if, item_binds, stretch}
use Rattle.min_imports.proofs.Going.{so_begins, so_more, so_ends, there_still}
use Rattle.min_imports.proofs.passing.plan.Goals as goal

pub loop-item-init : goal.loop-item-init
loop-item-init c = so_begins c.args.uses.now c.args.items.now c.new-binders.result c.new-staying.result.items c.new-changed.result.items c.new-binders.ensures.empty c.new-staying.ensures.items c.new-changed.ensures.items

pub item_goes-requires : goal.item_goes-requires
item_goes-requires c =
    let so = c.loop-item.invariant in
    record {
      even = omega (arith, ap length c.as_slice.ensures.value, so.even, so.long);
      within = omega (arith, ap length c.as_slice.ensures.value, so.long, c.loop-item-test.true);
      exported = so.exported;
      covers = so.covers;
      there = there_still c.args.items.now c.loop-item.ended c.ends_at-ended.result c.item-item.result c.loop-item.staying.items c.as_slice.result.now c.ends_at-ended.ensures (ap length c.as_slice.ensures.value) so.there;
    }

pub loop-item-preserved : goal.loop-item-preserved
loop-item-preserved c =
    let so = c.loop-item.invariant in
    let same : vec_len c.loop-item.staying ≡ length c.loop-item.staying.items = search rules in
    so_more c.args.uses.now c.args.items.now c.loop-item.item-index c.loop-item.ended c.ends_at-ended.result c.loop-item.binders c.add_item.new.binders c.loop-item.staying.items c.push.new.self.items c.loop-item.changed.items c.item_goes.new.changed.items c.push-in-loop-item.new.self.items
    c.item-item.result c.in_ok-is_gone.is_gone so c.loop-item-test.true c.item-item.is c.ends_at-ended.ensures
    (subst (λ l. ItemPasses c.args.uses.now c.ends_at-ended.result (planned c.args.items.now l c.loop-item.changed.items) c.item-item.result c.in_ok-is_gone.is_gone (planned c.args.items.now l c.item_goes.new.changed.items)) c.as_slice.ensures.value c.in_ok-is_gone.ensures.passes)
    c.in_ok-is_gone.ensures.even c.in_ok-is_gone.ensures.binds c.in_ok-is_gone.ensures.exported
    (subst (λ i. (q : List ℕ) → stretch c.add_item.new.binders q ≡ widened_if (item_binds c.item-item.result q) (stretch c.loop-item.binders q) i) (c.len.ensures ∙ same ∙ so.long) c.in_ok-add_item.ensures)
    c.in_ok-push.ensures.items c.in_ok-push-2.ensures.items

pub returns : goal.returns
returns c = so_ends c.args.uses.now c.args.items.now c.loop-item.item-index c.loop-item.ended c.loop-item.binders c.loop-item.staying.items c.loop-item.changed.items c.loop-item.invariant (omega (arith, c.loop-item-test.false))
