use Rattle.std.proofs.Common.{◌∙◌, ◌+◌, ℕ, drop, sym, ap, arith}
use Rattle.js_syntax.specs.Node.{row}
use Rattle.steps.specs.Allowed.MergedImports.{how_many}
use Rattle.min_imports.specs.Merging.{is_of}
use Rattle.min_imports.proofs.Lists.{one_more, none_more, all_counted}
use Rattle.min_imports.proofs.names.how_many.Goals as goal

pub loop-item-preserved : goal.loop-item-preserved
loop-item-preserved c =
    let names = c.args.names.now in
    let i = c.loop-item.item-index in
    let x = c.item-item.result in
    let behind = how_many (is_of c.args.sort) (row (drop (i + 1) names)) in
    elim c.if-item_is_of.branch [
      | goal.then-item_is_of w ↦ record {
        told = ap (λ (n : ℕ). n + behind) w.count-is ∙ one_more c.args.sort names i x c.loop-item.count (how_many (is_of c.args.sort) (row names)) c.loop-item-test.true c.item-item.is (sym c.item_is_of.ensures ∙ w.if-item_is_of.true) c.loop-item.invariant.told;
        few = omega (arith, w.count-is, c.loop-item.invariant.few);
      }
      | goal.else-item_is_of w ↦ record {
        told = ap (λ (n : ℕ). n + behind) w.count-is ∙ none_more c.args.sort names i x c.loop-item.count (how_many (is_of c.args.sort) (row names)) c.loop-item-test.true c.item-item.is (sym c.item_is_of.ensures ∙ w.if-item_is_of.false) c.loop-item.invariant.told;
        few = omega (arith, w.count-is, c.loop-item.invariant.few);
      }
    ]

pub returns : goal.returns
returns c = all_counted c.args.sort c.args.names.now c.loop-item.item-index c.loop-item.count _ (omega (arith, c.loop-item-test.false)) c.loop-item.invariant.told
