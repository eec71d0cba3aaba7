use Rattle.std.proofs.Common.{◌∙◌}
use Rattle.min_statements.proofs.Acting.{empty_edited, new_empty}
use Rattle.min_statements.proofs.emptied.put_empty.Goals as goal

pub returns-clause-put : goal.returns-clause-put
returns-clause-put c = c.replace_statement.ensures.put ∙ new_empty c.new-statement.result c.args.node.now.note c.span.result c.new.result.items c.new-statement.ensures c.span.ensures c.new.ensures.items

pub returns-clause-edited : goal.returns-clause-edited
returns-clause-edited c =
    empty_edited c.args.ctx.now c.replace_statement.new.self c.args.node.now c.replace_statement.new.slot
    (c.replace_statement.ensures.put ∙ new_empty c.new-statement.result c.args.node.now.note c.span.result c.new.result.items c.new-statement.ensures c.span.ensures c.new.ensures.items) c.replace_statement.ensures.dropped
