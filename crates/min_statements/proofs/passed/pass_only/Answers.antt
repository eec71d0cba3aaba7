use Rattle.min_statements.proofs.Passing.{only_fits, only_put, no_only}
use Rattle.min_statements.proofs.passed.pass_only.Goals as goal

pub pass_child-requires : goal.pass_child-requires
pass_child-requires c = only_fits c.args.children.now c.index-children-0.result c.args.passing.staying.items c.args.passing.changed.items c.if-children-eq1.true c.requires

pub returns-then-children-eq1 : goal.returns-then-children-eq1
returns-then-children-eq1 c = only_put c.args.children.now c.index-children-0.result c.pass_child.new.child c.args.passing.staying.items c.args.passing.changed.items c.if-children-eq1.true c.pass_child.ensures

pub returns-else-children-eq1 : goal.returns-else-children-eq1
returns-else-children-eq1 c = no_only c.args.children.now c.args.passing.staying.items c.args.passing.changed.items c.if-children-eq1.false
