use Rattle.std.proofs.Common.{◌∙◌, ◌+◌, drop, sym, ap, arith}
use Rattle.rules.specs.Expressions.EmptyAlternates.{last_from}
use Rattle.min_statements.proofs.Alternates.{next_last, at_last}
use Rattle.min_statements.proofs.empty_alternates.last_from.Goals as goal

pub loop-ancestor-preserved : goal.loop-ancestor-preserved
loop-ancestor-preserved c =
    ap (λ t. last_from t (drop (c.loop-ancestor.ancestor-index + 1) c.args.above.now)) c.last_in-last.ensures
    ∙ sym (next_last c.args.above.now c.loop-ancestor.ancestor-index _ c.loop-ancestor.last (omega arith))
    ∙ c.loop-ancestor.invariant

pub returns : goal.returns
returns c = sym (at_last c.args.above.now c.loop-ancestor.ancestor-index c.loop-ancestor.last (omega (arith, c.loop-ancestor-test.false))) ∙ c.loop-ancestor.invariant
