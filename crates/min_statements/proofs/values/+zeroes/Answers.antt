use Rattle.std.proofs.Common.{◌∙◌, ◌+◌, ap, set, sym, arith}
use Rattle.js_syntax.specs.Node.{row}
use Rattle.js_tree.specs.Weight.{size_of}
use Rattle.min_statements.specs.Untaken.{values_one}
use Rattle.min_statements.proofs.Kept.{changing, changing_first, changing_next, changed}
use Rattle.min_statements.proofs.Thinning.{next_sized}
use Rattle.min_statements.proofs.Valuing.{each_is_zeroed}
use Rattle.min_statements.proofs.values.+zeroes.Goals as goal

pub zero_each-loop-part-init : goal.zero_each-loop-part-init
zero_each-loop-part-init t c = record { same = changing_first values_one c.args.parts.now; small = omega arith }

pub zero_each-loop-part-preserved : goal.zero_each-loop-part-preserved
zero_each-loop-part-preserved t c = record {
  same = ap (λ x. changing values_one (set c.loop-part.parts c.loop-part.part-index x) (c.loop-part.part-index + 1)) c.zero_inside.ensures
      ∙ ap (λ x. changing values_one (set c.loop-part.parts c.loop-part.part-index (values_one x)) (c.loop-part.part-index + 1)) (sym c.part-item.is)
      ∙ changing_next values_one c.loop-part.parts c.loop-part.part-index c.part-item.result (omega (arith, c.loop-part-test.true, c.loop-part.auto.parts)) c.part-item.is
      ∙ c.loop-part.invariant.same;
  small = next_sized c.loop-part.parts c.loop-part.part-index c.part-item.result c.zero_inside.new.child (size_of (row c.args.parts.now)) (omega (arith, c.loop-part-test.true, c.loop-part.auto.parts)) c.part-item.is c.loop-part.invariant.small;
}

pub zero_each-returns : goal.zero_each-returns
zero_each-returns t c = ap row (sym (changed values_one c.loop-part.parts c.loop-part.part-index (omega (arith, c.loop-part-test.false, c.loop-part.auto.parts))) ∙ c.loop-part.invariant.same) ∙ each_is_zeroed c.args.parts.now
