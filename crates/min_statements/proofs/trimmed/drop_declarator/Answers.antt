use Rattle.std.proofs.Common.{◌∙◌, sym}
use Rattle.min_statements.specs.Walker.{facts_of}
use Rattle.min_statements.proofs.Shed.{dropped_declarator}
use Rattle.min_statements.proofs.trimmed.drop_declarator.Goals as goal

pub returns-then-declarator_goes : goal.returns-then-declarator_goes
returns-then-declarator_goes c = record {
  left = dropped_declarator (facts_of c.args.names.now c.args.ctx.now) c.facts.result c.args.at c.args.how c.args.declarator.now c.in-Some.node c.requires.asked c.in-Some.is c.facts.ensures (sym c.if-declarator_goes.true ∙ c.declarator_goes.ensures) c.drop_variable_declarator.ensures.dropped;
}
