-- stated/state_value
use Rattle.std.proofs.Common.{◌∙◌, sym}
use Rattle.min_statements.proofs.Stating.{states_so, states_none}
use Rattle.min_statements.proofs.stated.state_value.Goals as goal

pub put_value-requires : goal.put_value-requires
put_value-requires c = record { stays = sym c.becomes_stated.ensures ∙ c.if-not-becomes_stated.false }

pub returns-then-not-becomes_stated : goal.returns-then-not-becomes_stated
returns-then-not-becomes_stated c = record { does = states_none c.args.names.now c.args.ctx.now c.args.node.now (sym c.becomes_stated.ensures ∙ c.if-not-becomes_stated.true) }

pub returns : goal.returns
returns c = record {
  does = states_so c.args.names.now c.args.ctx.now c.put_value.new.ctx c.args.node.now c.put_value.new.node (sym c.becomes_stated.ensures ∙ c.if-not-becomes_stated.false) c.put_value.ensures.put c.put_value.ensures.edited;
}
