use Rattle.std.proofs.Common.{arith}
use Rattle.min_expressions.proofs.Leaving.{leaves_none}
use Rattle.min_expressions.proofs.Sequences.{next_front, front_leaves}
use Rattle.min_expressions.proofs.sequence.mark_leaving.Goals as goal

pub loop-part-init : goal.loop-part-init
loop-part-init c = leaves_none c.args.ctx.now

pub loop-part-preserved : goal.loop-part-preserved
loop-part-preserved c = next_front c.args.parts.now c.loop-part.part-index c.part-item.result c.loop-part-test.true c.part-item.is c.loop-part.invariant c.mark_unless_stays.ensures.left

pub returns : goal.returns
returns c = record { left = front_leaves c.args.parts.now c.loop-part.part-index (omega (arith, c.loop-part-test.false)) c.loop-part.invariant }
