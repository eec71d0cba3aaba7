use Rattle.std.proofs.Common.{◌∙◌, sym, arith}
use Rattle.min_statements.proofs.Valuing.{second_zeroed, no_second, some_second}
use Rattle.min_statements.proofs.values.zero_value.Goals as goal
use Rattle.min_statements.proofs.values.zero_value.Goals.{else-has_value-via-then-has_value+else-parts-gt1, else-has_value-via-else-has_value}

pub returns-then-parts-gt1 : goal.returns-then-parts-gt1
returns-then-parts-gt1 c = second_zeroed c.args.parts.now c.index-parts-1.result c.zero_child.new.child (sym c.has_value.ensures ∙ c.if-has_value.true) c.zero_child.ensures

pub returns-else-has_value : goal.returns-else-has_value
returns-else-has_value c =
    elim c.else-has_value.branch [
      | else-has_value-via-then-has_value+else-parts-gt1 w ↦ absurd (omega (arith, some_second c.args.parts.now (sym c.has_value.ensures ∙ w.if-has_value.true), w.if-parts-gt1.false))
      | else-has_value-via-else-has_value w ↦ no_second c.args.parts.now (sym c.has_value.ensures ∙ w.if-has_value.false)
    ]
