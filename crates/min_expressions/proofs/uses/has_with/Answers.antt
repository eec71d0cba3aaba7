use Rattle.std.proofs.Common.{◌∙◌, sym, arith}
use Rattle.min_expressions.proofs.Told.{with_found, with_passed, with_nowhere}
use Rattle.min_expressions.proofs.uses.has_with.Goals as goal

pub returns-then-is_field_of_with : goal.returns-then-is_field_of_with
returns-then-is_field_of_with c =
    sym (with_found c.args.above.now c.loop-ancestor.ancestor-index _ (omega arith) (sym c.is_field_of_with.ensures ∙ c.if-is_field_of_with.true))
    ∙ c.loop-ancestor.invariant

pub loop-ancestor-preserved : goal.loop-ancestor-preserved
loop-ancestor-preserved c =
    sym (with_passed c.args.above.now c.loop-ancestor.ancestor-index _ (omega arith) (sym c.is_field_of_with.ensures ∙ c.if-is_field_of_with.false))
    ∙ c.loop-ancestor.invariant

pub returns : goal.returns
returns c = sym (with_nowhere c.args.above.now c.loop-ancestor.ancestor-index (omega (arith, c.loop-ancestor-test.false))) ∙ c.loop-ancestor.invariant
