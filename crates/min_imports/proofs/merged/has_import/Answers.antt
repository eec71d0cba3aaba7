use Rattle.std.proofs.Common.{◌∙◌, sym, arith, refl}
use Rattle.js_tree.proofs.Search.{found_at, rest_of, none_found}
use Rattle.min_imports.specs.Merging.{has_import}
use Rattle.min_imports.proofs.Planning.{imports_each}
use Rattle.min_imports.proofs.merged.has_import.Goals as goal

pub returns-then-is_import_item : goal.returns-then-is_import_item
returns-then-is_import_item c = sym (found_at has_import imports_each c.args.items.now c.loop-item.item-index c.item-item.result c.loop-item-test.true c.item-item.is (sym c.is_import_item.ensures ∙ c.if-is_import_item.true))

pub loop-item-preserved : goal.loop-item-preserved
loop-item-preserved c = rest_of has_import imports_each c.args.items.now c.loop-item.item-index c.item-item.result c.loop-item-test.true c.item-item.is (sym c.is_import_item.ensures ∙ c.if-is_import_item.false) c.loop-item.invariant

pub returns : goal.returns
returns c = sym (none_found has_import c.args.items.now c.loop-item.item-index refl (omega (arith, c.loop-item-test.false)) c.loop-item.invariant)
