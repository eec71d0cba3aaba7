use Rattle.std.proofs.Common.{◌∙◌, sym}
use Rattle.min_statements.proofs.Pruning.{prunes_so, prunes_none}
use Rattle.min_statements.proofs.imports.remove_unused_import_specifiers.Goals as goal

pub returns-then-not-has_unused : goal.returns-then-not-has_unused
returns-then-not-has_unused c = record {
  does = prunes_none c.args.names.now c.args.ctx.now c.args.node.now (sym c.if-not-has_unused.true ∙ c.has_unused.ensures);
}

pub returns : goal.returns
returns c = record {
  does = prunes_so c.args.names.now c.args.ctx.now c.notice_change.new.self c.args.node.now c.prune_import.new.node c.facts.result c.of-at.result c.of-at.ensures (sym c.if-not-has_unused.false ∙ c.has_unused.ensures)
      c.facts.ensures c.prune_import.ensures c.notice_change.ensures.requested;
}
