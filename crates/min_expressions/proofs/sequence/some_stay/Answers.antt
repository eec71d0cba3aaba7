use Rattle.std.proofs.Common.{◌∙◌, sym, arith, refl}
use Rattle.js_tree.proofs.Search.{found_at, rest_of, none_found}
use Rattle.min_expressions.specs.Sequences.{some_stay}
use Rattle.min_expressions.proofs.Sequences.{stays_alone, stay_each}
use Rattle.min_expressions.proofs.sequence.some_stay.Goals as goal

pub returns-then-item_stays : goal.returns-then-item_stays
returns-then-item_stays c = sym (found_at some_stay stay_each c.args.parts.now c.loop-part.part-index c.part-item.result c.loop-part-test.true c.part-item.is (sym (stays_alone c.part-item.result) ∙ sym c.item_stays.ensures ∙ c.if-item_stays.true))

pub loop-part-preserved : goal.loop-part-preserved
loop-part-preserved c = rest_of some_stay stay_each c.args.parts.now c.loop-part.part-index c.part-item.result c.loop-part-test.true c.part-item.is (sym (stays_alone c.part-item.result) ∙ sym c.item_stays.ensures ∙ c.if-item_stays.false) c.loop-part.invariant

pub returns : goal.returns
returns c = sym (none_found some_stay c.args.parts.now c.loop-part.part-index refl (omega (arith, c.loop-part-test.false)) c.loop-part.invariant)
