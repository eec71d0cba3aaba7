use Rattle.std.proofs.Common.{refl, arith}
use Rattle.min_statements.specs.Shed.{shed}
use Rattle.min_statements.proofs.Shed.{leaves_none, asked_still, next, all, items_each}
use Rattle.min_statements.proofs.trimmed.drop_items.Goals as goal

pub loop-item-init : goal.loop-item-init
loop-item-init c = leaves_none c.args.ctx.now

pub drop_item-requires : goal.drop_item-requires
drop_item-requires c = record { asked = asked_still c.loop-item.invariant c.requires.asked }

pub loop-item-preserved : goal.loop-item-preserved
loop-item-preserved c = next (λ m f t. shed m f c.args.at t) (λ m f. refl) (items_each c.args.at) c.args.names.now c.args.items.now c.loop-item.item-index c.item-item.result c.loop-item-test.true c.item-item.is c.loop-item.invariant c.drop_item.ensures.left

pub returns : goal.returns
returns c = record { left = all (λ m f t. shed m f c.args.at t) (λ m f. refl) (items_each c.args.at) c.args.names.now c.args.items.now c.loop-item.item-index (omega (arith, c.loop-item-test.false)) c.loop-item.invariant }
