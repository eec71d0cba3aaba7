use Rattle.std.proofs.Common.{◌∙◌, sym, arith, refl}
use Rattle.js_syntax.specs.Node.{row}
use Rattle.min_imports.specs.Merging.{overlaid}
use Rattle.min_imports.proofs.Finding.{none_yet, ends_here, goes_on, at_end, there_within}
use Rattle.min_imports.proofs.Overlaid.{over_there}
use Rattle.min_imports.proofs.merged.receiver.Goals as goal

pub loop-at-init : goal.loop-at-init
loop-at-init c = none_yet c.args.source.now (row c.args.later.now) c.args.staying.now (overlaid c.args.items.now c.args.changed.now)

pub returns-then-ends-clause-index : goal.returns-then-ends-clause-index
returns-then-ends-clause-index c =
    let o = over_there c.args.items.now c.args.changed.now _ c.loop-at.at c.index-items-at.result c.index-changed-at.result c.as_changed-item.result.now c.loop-at-test.true c.requires.even c.requires.within c.index-items-at.is c.index-changed-at.is c.as_changed-item.ensures in
    c.there.ensures ∙ ends_here c.args.source.now (row c.args.later.now) c.args.staying.now (overlaid c.args.items.now c.args.changed.now) c.loop-at.at _ _ c.loop-at.invariant c.loop-at-test.true o.0 refl o.1 (sym c.ends.ensures ∙ c.if-ends.true)

pub returns-then-ends-clause-within : goal.returns-then-ends-clause-within
returns-then-ends-clause-within c = there_within c.loop-at.at _ c.as_changed-item.result.now c.there.result c.there.ensures c.loop-at-test.true

pub loop-at-preserved : goal.loop-at-preserved
loop-at-preserved c =
    let o = over_there c.args.items.now c.args.changed.now _ c.loop-at.at c.index-items-at.result c.index-changed-at.result c.as_changed-item.result.now c.loop-at-test.true c.requires.even c.requires.within c.index-items-at.is c.index-changed-at.is c.as_changed-item.ensures in
    goes_on c.args.source.now (row c.args.later.now) c.args.staying.now (overlaid c.args.items.now c.args.changed.now) c.loop-at.at _ _ c.loop-at.invariant c.loop-at-test.true o.0 refl o.1 (sym c.ends.ensures ∙ c.if-ends.false)

pub returns-clause-index : goal.returns-clause-index
returns-clause-index c = sym (at_end c.args.source.now (row c.args.later.now) c.args.staying.now (overlaid c.args.items.now c.args.changed.now) c.loop-at.at c.loop-at.invariant (omega (arith, c.loop-at-test.false)))
