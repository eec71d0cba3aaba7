use Rattle.std.proofs.Common.{arith, refl}
use Rattle.min_statements.proofs.Passing.{none_out, out_next, all_out}
use Rattle.min_statements.proofs.Shed.{asked_still}
use Rattle.min_statements.proofs.passed.drop_items.Goals as goal

pub loop-at-init : goal.loop-at-init
loop-at-init c = none_out c.args.ctx.now c.args.staying.now c.args.items.now

pub drop_unless-requires : goal.drop_unless-requires
drop_unless-requires c = asked_still c.loop-at.invariant c.requires.asked

pub loop-at-preserved : goal.loop-at-preserved
loop-at-preserved c = out_next c.args.staying.now c.args.items.now c.loop-at.at _ c.index-items-at.result c.loop-at-test.true c.requires.within refl c.index-items-at.is c.loop-at.invariant c.drop_unless.ensures

pub returns : goal.returns
returns c = all_out c.args.staying.now c.args.items.now c.loop-at.at (omega (arith, c.loop-at-test.false)) c.loop-at.invariant
