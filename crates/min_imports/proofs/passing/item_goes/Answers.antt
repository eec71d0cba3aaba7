use Rattle.min_imports.specs.Merging.{planned}
use Rattle.min_imports.proofs.Going.{ended_goes, none_goes, some_goes}
use Rattle.min_imports.proofs.passing.item_goes.Goals as goal

pub returns-then-ended-clause-passes : goal.returns-then-ended-clause-passes
returns-then-ended-clause-passes c = ended_goes c.args.uses.now c.args.ended (planned c.args.items.now c.args.staying.now c.args.changed.now.items) c.args.item.now c.if-ended.true

pub returns-in_default-clause-passes : goal.returns-in_default-clause-passes
returns-in_default-clause-passes c = none_goes c.args.uses.now c.args.ended (planned c.args.items.now c.args.staying.now c.args.changed.now.items) c.args.item.now c.in_default.is

pub export_goes-requires : goal.export_goes-requires
export_goes-requires c = record { even = c.requires.even; within = c.requires.within; exported = c.requires.exported; covers = c.requires.covers; there = c.requires.there c.if-ended.false }

pub returns-clause-passes : goal.returns-clause-passes
returns-clause-passes c =
    some_goes c.args.uses.now c.args.ended (planned c.args.items.now c.args.staying.now c.args.changed.now.items) c.args.item.now c.in-Some.node c.in_ok-goes.goes (planned c.args.items.now c.args.staying.now c.export_goes.new.changed.items) c.if-ended.false c.in-Some.is c.in_ok-goes.ensures.passes
