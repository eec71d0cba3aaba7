use Rattle.std.proofs.Common.{◌∙◌, sym, arith}
use Rattle.min_statements.proofs.Each.{class_found, class_passed, class_nowhere}
use Rattle.min_statements.proofs.facts.has_class.Goals as goal

pub returns-then-is_field_of_class : goal.returns-then-is_field_of_class
returns-then-is_field_of_class c =
    sym (class_found c.args.above.now c.loop-ancestor.ancestor-index _ (omega arith) (sym c.is_field_of_class.ensures ∙ c.if-is_field_of_class.true))
    ∙ c.loop-ancestor.invariant

pub loop-ancestor-preserved : goal.loop-ancestor-preserved
loop-ancestor-preserved c =
    sym (class_passed c.args.above.now c.loop-ancestor.ancestor-index _ (omega arith) (sym c.is_field_of_class.ensures ∙ c.if-is_field_of_class.false))
    ∙ c.loop-ancestor.invariant

pub returns : goal.returns
returns c = sym (class_nowhere c.args.above.now c.loop-ancestor.ancestor-index (omega (arith, c.loop-ancestor-test.false))) ∙ c.loop-ancestor.invariant
