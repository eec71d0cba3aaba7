use Rattle.std.proofs.Common.{◌∙◌, ◌+◌, drop, sym, ap, arith}
use Rattle.rules.specs.Expressions.Uses.{taken_from}
use Rattle.min_expressions.specs.Uses.{taker}
use Rattle.min_expressions.proofs.Told.{next_taken, last_taken}
use Rattle.min_expressions.proofs.uses.taken_from.Goals as goal

pub loop-ancestor-preserved : goal.loop-ancestor-preserved
loop-ancestor-preserved c =
    ap (λ t. taken_from t (drop (c.loop-ancestor.ancestor-index + 1) c.args.above.now)) c.taken_in-taken.ensures
    ∙ sym (next_taken c.args.above.now c.loop-ancestor.ancestor-index _ (taker c.loop-ancestor.taken) (omega arith))
    ∙ c.loop-ancestor.invariant

pub returns : goal.returns
returns c = sym (last_taken c.args.above.now c.loop-ancestor.ancestor-index (taker c.loop-ancestor.taken) (omega (arith, c.loop-ancestor-test.false))) ∙ c.loop-ancestor.invariant
