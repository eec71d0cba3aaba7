use Rattle.min_statements.proofs.Passing.{one_stays, one_goes}
use Rattle.min_statements.proofs.passed.drop_unless.Goals as goal

pub returns-then-stays : goal.returns-then-stays
returns-then-stays c = one_stays c.args.ctx.now c.args.stays c.args.item.now c.if-stays.true

pub returns : goal.returns
returns c = one_goes c.args.stays c.args.item.now c.if-stays.false c.drop_item.ensures
