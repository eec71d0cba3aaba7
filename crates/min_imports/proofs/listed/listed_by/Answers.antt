use Rattle.std.proofs.Common.{arith}
use Rattle.js_syntax.specs.Node.{row}
use Rattle.min_imports.proofs.Listing.{so_begins, so_more, so_ends}
use Rattle.min_imports.proofs.listed.listed_by.Goals as goal

pub loop-item-init : goal.loop-item-init
loop-item-init c = so_begins c.new-texts.result c.new-references.result (row c.args.specifiers.now) c.new-texts.ensures.empty c.new-references.ensures.empty

pub loop-item-preserved : goal.loop-item-preserved
loop-item-preserved c =
    so_more c.args.specifiers.now c.loop-item.item-index c.item-item.result c.loop-item.texts c.add_text.new.texts c.loop-item.references c.add_reference.new.references c.loop-item-test.true c.item-item.is c.in_ok-add_text.ensures c.in_ok-add_reference.ensures
    c.loop-item.invariant

pub returns-clause-told : goal.returns-clause-told
returns-clause-told c = so_ends c.args.specifiers.now c.loop-item.item-index c.loop-item.texts c.loop-item.references (omega (arith, c.loop-item-test.false)) c.loop-item.invariant
