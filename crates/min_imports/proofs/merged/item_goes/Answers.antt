use Rattle.min_imports.specs.Merging.{planned}
use Rattle.min_imports.proofs.Planning.{ended_goes, none_goes, some_goes}
use Rattle.min_imports.proofs.merged.item_goes.Goals as goal

pub returns-then-ended-clause-goes : goal.returns-then-ended-clause-goes
returns-then-ended-clause-goes c = ended_goes c.args.ended c.args.sources.now (planned c.args.items.now c.args.staying.now c.args.changed.now.items) c.args.item.now c.if-ended.true

pub returns-in_default-clause-goes : goal.returns-in_default-clause-goes
returns-in_default-clause-goes c = none_goes c.args.ended c.args.sources.now (planned c.args.items.now c.args.staying.now c.args.changed.now.items) c.args.item.now c.in_default.is

pub returns-clause-goes : goal.returns-clause-goes
returns-clause-goes c =
    some_goes c.args.ended c.args.sources.now (planned c.args.items.now c.args.staying.now c.args.changed.now.items) c.args.item.now c.in-Some.node c.in_ok-is_gone.is_gone c.goes.new.sources (planned c.args.items.now c.args.staying.now c.goes.new.changed.items) c.if-ended.false c.in-Some.is c.in_ok-is_gone.ensures.goes
