use Rattle.min_statements.proofs.Passing.{none_left, one_left}
use Rattle.min_statements.proofs.passed.drop_item.Goals as goal

pub returns-in-Some : goal.returns-in-Some
returns-in-Some c = one_left c.args.item.now c.in-Some.node c.in-Some.is c.requires c.drop_statement.ensures.dropped

pub returns-in-None : goal.returns-in-None
returns-in-None c = none_left c.args.ctx.now c.args.item.now c.in-None.is
