use Rattle.min_statements.proofs.Acting.{new_empty}
use Rattle.min_statements.proofs.inert.empty.Goals as goal

pub returns : goal.returns
returns c = new_empty c.new-2.result c.args.node.now.note c.span.result c.new.result.items c.new-2.ensures c.span.ensures c.new.ensures.items
