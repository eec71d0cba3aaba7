use Rattle.std.proofs.Common.{◌∙◌, ◌+◌, ap, set, sym, arith}
use Rattle.std.specs.Option.{option_map}
use Rattle.js_syntax.specs.Node.{row}
use Rattle.min_expressions.specs.Textless.{textless}
use Rattle.min_expressions.proofs.Textless.{changing, changing_first, changing_next, changed, each_textless}
use Rattle.min_expressions.proofs.texts.empty_each.Goals as goal

pub loop-element-init : goal.loop-element-init
loop-element-init c = changing_first (option_map textless) c.args.elements.now

pub loop-element-preserved : goal.loop-element-preserved
loop-element-preserved c =
    ap (λ x. changing (option_map textless) (set c.loop-element.elements c.loop-element.element-index x) (c.loop-element.element-index + 1)) c.empty_item.ensures
    ∙ ap (λ x. changing (option_map textless) (set c.loop-element.elements c.loop-element.element-index (option_map textless x)) (c.loop-element.element-index + 1)) (sym c.element-item.is)
    ∙ changing_next (option_map textless) c.loop-element.elements c.loop-element.element-index c.element-item.result (omega (arith, c.loop-element-test.true, c.loop-element.auto.elements)) c.element-item.is
    ∙ c.loop-element.invariant

pub returns : goal.returns
returns c = ap row (sym (changed (option_map textless) c.loop-element.elements c.loop-element.element-index (omega (arith, c.loop-element-test.false, c.loop-element.auto.elements))) ∙ c.loop-element.invariant) ∙ each_textless c.args.elements.now
