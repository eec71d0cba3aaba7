use Rattle.std.proofs.Common.{◌∙◌, not, sym, ap, arith, refl}
use Rattle.js_syntax.specs.Node.{row}
use Rattle.js_tree.proofs.Search.{found_at, rest_of, none_found}
use Rattle.min_imports.specs.Passing.{fails}
use Rattle.min_imports.proofs.Listing.{fails_each, one_passes}
use Rattle.min_imports.proofs.listed.all_pass.Goals as goal

pub returns-then-not-name_passes : goal.returns-then-not-name_passes
returns-then-not-name_passes c =
    let f = c.args.uses.now in
    let l = row c.args.listed.now.specifiers.now in
    sym (ap not (found_at (fails f l) (fails_each f l) c.args.names.now c.loop-item.item-index c.item-item.result c.loop-item-test.true c.item-item.is (one_passes f l c.item-item.result c.name_passes.result c.name_passes.ensures ∙ ap not c.if-not-name_passes.true)))

pub loop-item-preserved : goal.loop-item-preserved
loop-item-preserved c =
    let f = c.args.uses.now in
    let l = row c.args.listed.now.specifiers.now in
    rest_of (fails f l) (fails_each f l) c.args.names.now c.loop-item.item-index c.item-item.result c.loop-item-test.true c.item-item.is (one_passes f l c.item-item.result c.name_passes.result c.name_passes.ensures ∙ ap not c.if-not-name_passes.false) c.loop-item.invariant

pub returns : goal.returns
returns c =
    let f = c.args.uses.now in
    let l = row c.args.listed.now.specifiers.now in
    sym (ap not (none_found (fails f l) c.args.names.now c.loop-item.item-index refl (omega (arith, c.loop-item-test.false)) c.loop-item.invariant))
