use Rattle.std.proofs.Common.{length, arith, refl}
use Rattle.scope_table.specs.Reading.{ancestors}
use Rattle.scope_table.specs.Refreshing.{marked}
use Rattle.scope_table.proofs.Flagged.{mark_more, mark_none, mark_end}
use Rattle.scope_table.proofs.scoping.Scoping.mark_around.Goals as goal

pub loop-i-init : goal.loop-i-init
loop-i-init c = record { left = length c.args.self.now.scopes; count = omega arith; same = λ k. refl; parts = refl }

pub loop-i-preserved : goal.loop-i-preserved
loop-i-preserved c =
    mark_more c.args.self.now c.loop-i.self c.mark_eval.new.self c.loop-i._i (length c.args.self.now.scopes) c.loop-i.next c.parent_of-next.result c.in-Some.at (marked (ancestors c.args.self.now c.args.scope) c.args.self.now)
    (omega (arith, c.loop-i-test.true, c.scopes_len-most.ensures)) c.in-Some.is c.mark_eval.ensures c.parent_of-next.ensures c.loop-i.invariant

pub returns-in_default : goal.returns-in_default
returns-in_default c = mark_none c.args.self.now c.loop-i.self c.loop-i._i (length c.args.self.now.scopes) c.loop-i.next (marked (ancestors c.args.self.now c.args.scope) c.args.self.now) c.in_default.is c.loop-i.invariant

pub returns : goal.returns
returns c =
    mark_end c.args.self.now c.loop-i.self c.loop-i._i (length c.args.self.now.scopes) c.loop-i.next (marked (ancestors c.args.self.now c.args.scope) c.args.self.now)
    (omega (arith, c.loop-i-test.false, c.scopes_len-most.ensures)) c.loop-i.invariant
