use Rattle.std.proofs.Common.{◌∙◌, ◌+◌, ap, set, sym, arith}
use Rattle.js_syntax.specs.Node.{row}
use Rattle.min_statements.specs.Shed.{left_of}
use Rattle.min_statements.proofs.Kept.{changing, changing_first, changing_next, changed, each_is}
use Rattle.min_statements.proofs.trimmed.trim_each.Goals as goal

pub loop-item-init : goal.loop-item-init
loop-item-init c = changing_first (left_of c.args.facts.now c.args.at) c.args.items.now

pub loop-item-preserved : goal.loop-item-preserved
loop-item-preserved c =
    let h = left_of c.args.facts.now c.args.at in
    ap (λ x. changing h (set c.loop-item.items c.loop-item.item-index x) (c.loop-item.item-index + 1)) c.trim_child.ensures
    ∙ ap (λ x. changing h (set c.loop-item.items c.loop-item.item-index (h x)) (c.loop-item.item-index + 1)) (sym c.item-item.is)
    ∙ changing_next h c.loop-item.items c.loop-item.item-index c.item-item.result (omega (arith, c.loop-item-test.true, c.loop-item.auto.items)) c.item-item.is
    ∙ c.loop-item.invariant

pub returns : goal.returns
returns c =
    let h = left_of c.args.facts.now c.args.at in
    ap row (sym (changed h c.loop-item.items c.loop-item.item-index (omega (arith, c.loop-item-test.false, c.loop-item.auto.items))) ∙ c.loop-item.invariant) ∙ each_is c.args.facts.now c.args.at c.args.items.now
