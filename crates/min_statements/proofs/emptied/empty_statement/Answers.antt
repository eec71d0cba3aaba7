use Rattle.std.proofs.Common.{◌∙◌, sym}
use Rattle.min_statements.proofs.Acting.{empties, empties_none}
use Rattle.min_statements.proofs.emptied.empty_statement.Goals as goal

pub returns-then-not-becomes_empty : goal.returns-then-not-becomes_empty
returns-then-not-becomes_empty c = record {
  does = empties_none c.args.names.now c.args.ctx.now c.args.node.now (sym c.if-not-becomes_empty.true ∙ c.becomes_empty.ensures);
}

pub returns : goal.returns
returns c = record {
  does = empties c.args.names.now c.args.ctx.now c.put_empty.new.ctx c.args.node.now c.put_empty.new.node (sym c.if-not-becomes_empty.false ∙ c.becomes_empty.ensures) c.put_empty.ensures.put c.put_empty.ensures.edited;
}
