use Rattle.std.proofs.Common.{◌∙◌, false, sym, arith}
use Rattle.min_statements.proofs.Emptying.{emptying_first, emptying_next, emptied}
use Rattle.min_statements.proofs.inert.empty_each.Goals as goal

pub loop-item-init : goal.loop-item-init
loop-item-init c = emptying_first false c.args.items.now

pub loop-item-preserved : goal.loop-item-preserved
loop-item-preserved c =
    emptying_next c.loop-item.jumped c.jumped_behind-behind.result c.loop-item.items c.loop-item.item-index c.item-item.result c.empty_child.new.child (omega (arith, c.loop-item-test.true, c.loop-item.auto.items)) c.item-item.is c.jumped_behind-behind.ensures c.empty_child.ensures
    ∙ c.loop-item.invariant

pub returns : goal.returns
returns c = sym (emptied c.loop-item.jumped c.loop-item.items c.loop-item.item-index (omega (arith, c.loop-item-test.false, c.loop-item.auto.items))) ∙ c.loop-item.invariant
