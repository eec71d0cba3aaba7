use Rattle.std.proofs.Common.{◌∙◌, refl, sym, ap, ap₂, set, get_or, arith}
use Rattle.std.proofs.lemmas.List.{get_or-set_other, length-set}
use Rattle.min_imports.specs.Merging.{or_changed}
use Rattle.min_imports.proofs.Laying.{none_laid, laid_more, all_laid}
use Rattle.min_imports.proofs.merged.put_changed.Goals as goal

pub loop-at-init : goal.loop-at-init
loop-at-init c = record { now = none_laid c.args.items.now c.args.changed.now; later = λ i d h. refl; long = refl }

pub loop-at-preserved : goal.loop-at-preserved
loop-at-preserved c =
    let at = c.loop-at.at in
    let items = c.args.items.now in
    let changed = c.args.changed.now in
    let x = c.index-items-at.result in
    let y = c.index-changed-at.result in
    let so = c.loop-at.invariant in
    record {
      now = ap (λ l. set l at c.put_changed_one.new.item) so.now
          ∙ laid_more at items changed x y c.put_changed_one.new.item (omega (arith, c.loop-at-test.true, so.long, c.requires)) c.requires (c.index-items-at.is ∙ ap (λ l. get_or l at x) so.now) (c.index-changed-at.is ∙ so.later at y (omega arith)) (c.put_changed_one.ensures ∙ ap₂ or_changed (sym c.index-items-at.is) (sym c.index-changed-at.is));
      later = λ i d h. get_or-set_other c.loop-at.changed at i c.put_changed_one.new.changed d (λ e. omega (arith, e, h)) ∙ so.later i d (omega (arith, h));
      long = length-set c.loop-at.changed at c.put_changed_one.new.changed ∙ so.long;
    }

pub returns : goal.returns
returns c = c.loop-at.invariant.now ∙ all_laid c.loop-at.at c.args.items.now c.args.changed.now (omega (arith, c.loop-at-test.false, c.loop-at.invariant.long)) c.requires
