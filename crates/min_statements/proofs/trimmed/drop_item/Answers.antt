use Rattle.std.proofs.Common.{◌∙◌, sym}
use Rattle.min_statements.proofs.Spared.{spared}
use Rattle.min_statements.proofs.trimmed.drop_item.Goals as goal

pub returns-else-child_has_dead : goal.returns-else-child_has_dead
returns-else-child_has_dead c = record {
  left = spared c.args.names.now c.args.ctx.now c.facts.result c.args.at c.args.item.now c.facts.ensures (sym c.child_has_dead.ensures ∙ c.if-child_has_dead.false);
}
