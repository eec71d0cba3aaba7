use Rattle.std.proofs.Common.{◌∙◌, ◌+◌, drop, ap, arith}
use Rattle.js_syntax.specs.Node.{row}
use Rattle.steps.specs.Allowed.MergedImports.{how_many}
use Rattle.min_imports.specs.declared.names.Sort.TheVariants as sort
use Rattle.min_imports.specs.Merging.{is_of}
use Rattle.min_imports.proofs.Lists.{begins, put_more, all_put}
use Rattle.min_imports.proofs.names.put_names.Goals as goal

pub loop-item-init : goal.loop-item-init
loop-item-init c = begins c.how_many-has_default.result (row c.args.names.now.items) (row c.args.later.now) (c.how_many-has_default.ensures ∙ ap (λ l. how_many (is_of sort.Default) (row l)) c.as_slice.ensures.value)

pub loop-item-preserved : goal.loop-item-preserved
loop-item-preserved c =
    put_more c.in_ok-has_default.has_default c.loop-item.has_default (row c.put_name.new.names.items) (row c.loop-item.names.items) c.args.later.now c.loop-item.item-index c.item-item.result _ c.loop-item-test.true c.item-item.is
    (c.in_ok-has_default.ensures (row (drop (c.loop-item.item-index + 1) c.args.later.now))) c.loop-item.invariant

pub returns : goal.returns
returns c = all_put c.loop-item.has_default (row c.loop-item.names.items) c.args.later.now c.loop-item.item-index _ (omega (arith, c.loop-item-test.false)) c.loop-item.invariant
