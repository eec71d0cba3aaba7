use Rattle.std.proofs.Common.{◌∙◌, sym, arith, refl}
use Rattle.js_tree.proofs.Search.{found_at, rest_of, none_found}
use Rattle.steps.specs.Allowed.TwoSides.{has_texts}
use Rattle.min_expressions.proofs.Textless.{texts_each}
use Rattle.min_expressions.proofs.texts.have_texts.Goals as goal

pub returns-then-item_has_text : goal.returns-then-item_has_text
returns-then-item_has_text c = sym (found_at has_texts texts_each c.args.elements.now c.loop-element.element-index c.element-item.result c.loop-element-test.true c.element-item.is (sym c.item_has_text.ensures ∙ c.if-item_has_text.true))

pub loop-element-preserved : goal.loop-element-preserved
loop-element-preserved c = rest_of has_texts texts_each c.args.elements.now c.loop-element.element-index c.element-item.result c.loop-element-test.true c.element-item.is (sym c.item_has_text.ensures ∙ c.if-item_has_text.false) c.loop-element.invariant

pub returns : goal.returns
returns c = sym (none_found has_texts c.args.elements.now c.loop-element.element-index refl (omega (arith, c.loop-element-test.false)) c.loop-element.invariant)
