use Rattle.std.proofs.Common.{◌∙◌, sym, arith, refl}
use Rattle.js_tree.proofs.Search.{found_at, rest_of, none_found}
use Rattle.min_imports.specs.Passing.{has_export}
use Rattle.min_imports.proofs.Binding.{exports_each, one_exports}
use Rattle.min_imports.proofs.passing.has_export.Goals as goal

pub returns-then-item_exports : goal.returns-then-item_exports
returns-then-item_exports c = sym (found_at has_export exports_each c.args.items.now c.loop-item.item-index c.item-item.result c.loop-item-test.true c.item-item.is (one_exports c.item-item.result ∙ sym c.item_exports.ensures ∙ c.if-item_exports.true))

pub loop-item-preserved : goal.loop-item-preserved
loop-item-preserved c = rest_of has_export exports_each c.args.items.now c.loop-item.item-index c.item-item.result c.loop-item-test.true c.item-item.is (one_exports c.item-item.result ∙ sym c.item_exports.ensures ∙ c.if-item_exports.false) c.loop-item.invariant

pub returns : goal.returns
returns c = sym (none_found has_export c.args.items.now c.loop-item.item-index refl (omega (arith, c.loop-item-test.false)) c.loop-item.invariant)
