use Rattle.std.proofs.Common.{refl}
use Rattle.min_statements.proofs.Passing.{child_put, child_fits, no_child}
use Rattle.min_statements.proofs.passed.pass_child.Goals as goal

pub pass_in-requires : goal.pass_in-requires
pass_in-requires c = child_fits c.args.child.now c.in-Some.list c.args.passing.staying.items c.args.passing.changed.items c.in-Some.is c.requires

pub returns-in-Some : goal.returns-in-Some
returns-in-Some c = child_put c.args.child.now _ c.in-Some.list c.pass_in.new.list c.args.passing.staying.items c.args.passing.changed.items c.in-Some.is refl c.pass_in.ensures

pub returns-in-None : goal.returns-in-None
returns-in-None c = no_child c.args.child.now c.args.passing.staying.items c.args.passing.changed.items c.in-None.is
