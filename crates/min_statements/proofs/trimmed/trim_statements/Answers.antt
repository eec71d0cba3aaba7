use Rattle.std.proofs.Common.{◌∙◌, refl, sym}
use Rattle.js_syntax.specs.Node.{row}
use Rattle.min_statements.proofs.Acting.{trims, trims_none}
use Rattle.min_statements.proofs.trimmed.trim_statements.Goals as goal

pub returns-then-not-has_gone : goal.returns-then-not-has_gone
returns-then-not-has_gone c = record {
  does = trims_none c.args.names.now c.args.ctx.now c.args.node.now c.facts.result c.of-at.result (row c.children.result.now) c.of-at.ensures c.facts.ensures c.children.ensures (sym c.if-not-has_gone.true ∙ c.has_gone.ensures);
}

pub returns : goal.returns
returns c = record {
  does = trims c.args.names.now c.args.ctx.now c.notice_change.new.self c.clear_inert.new.ctx c.drop_items.new.ctx c.args.node.now c.clear_inert.new.node c.trim.new.node c.facts.result c.facts-2.result c.of-at.result (row c.children.result.now) c.args.node.now.below (row c.children-2.result.now) c.requires.list c.of-at.ensures c.facts.ensures c.children.ensures
      (sym c.if-not-has_gone.false ∙ c.has_gone.ensures) c.notice_change.ensures.requested refl c.clear_inert.ensures.left c.clear_inert.ensures.emptied c.children-2.ensures c.drop_items.ensures.left c.facts-2.ensures c.trim.ensures;
}
